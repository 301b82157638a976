-- The tokens of a text, the time scales that it sets, and its first lexical fault (IEEE 1800-2017, 5.2 to 5.4).
use Rattle.std.specs.Prelude.{◌≡◌, ℕ, zero, suc, ◌+◌, ◌-◌, ◌^◌, Bool, true, false, ◌&&◌, ◌||◌, List, [], ◌∷◌, length, take, Option, Some, None, if◌then◌else◌, ◌==◌, nat_lt, is_some, is_err, codes}
use Rattle.std.specs.List.{list_all, starts_with}
use Rattle.std.specs.Bool.{nat_eq}
use Prim.Native.Char.{code}
use Rattle.sv_value.specs.declared.place.Place.{Place}
use Rattle.sv_tree.specs.declared.kind.Kind.{Kind}
use Rattle.sv_tree.specs.declared.kind.Kind.TheVariants as kinds
use Rattle.sv_tree.specs.declared.token.Token.{Token}
use Rattle.sv_tree.specs.declared.token.Timescale.{Timescale}
use Rattle.sv_tree.specs.declared.token.Refused.{Refused}
use Rattle.sv_tree.specs.declared.token.Refused.TheVariants as refused
use Rattle.sv_tree.specs.declared.token.Piece.{Piece}
use Rattle.sv_tree.specs.declared.token.Piece.TheVariants as pieces
use Rattle.sv_tree.specs.Longest.{longest}
use Rattle.sv_tree.specs.Tokens.{kind_of, is_number, is_string, is_on_line, is_nil, is_one, is_after}
use Rattle.sv_digits.specs.Literal.{literal_of}
use Rattle.sv_tree.specs.Directives.{timescale_at, nettype_at}

-- ---- separators

-- a blank, a tab, a newline or a carriage return
abbrev pub is_blank_byte : ℕ → Bool
is_blank_byte c = c == code " " || c == code "\t" || c == code "\n" || c == code "\r"

-- one of these
unfoldable pub is_blank : List ℕ → Bool
is_blank w = is_one is_blank_byte w

-- the bytes of / and *
abbrev pub slash : ℕ
slash = code "/"

abbrev pub star : ℕ
star = code "*"

-- // and the rest of the line
unfoldable pub is_line_comment : List ℕ → Bool
is_line_comment w = is_after slash (is_after slash (list_all is_on_line)) w

-- up to the first */
unfoldable pub is_comment_rest : List ℕ → Bool
is_comment_rest (c ∷ d ∷ cs) = if c == star && d == slash then is_nil cs else is_comment_rest (d ∷ cs)
is_comment_rest w = false

-- "/*" up to the first "*/"
unfoldable pub is_comment : List ℕ → Bool
is_comment w = is_after slash (is_after star is_comment_rest) w

-- what separates tokens (5.3, 5.4)
unfoldable pub is_separator : List ℕ → Bool
is_separator w = is_blank w || (is_line_comment w || is_comment w)

-- ---- pieces

-- a token of any kind
unfoldable pub is_token : List ℕ → Bool
is_token w = is_some (kind_of w)

-- where no token can be read: a string literal that is cut by its line's end, or a bad byte
unfoldable pub no_token : List ℕ → Refused
no_token s = if starts_with nat_eq s (codes "\"") && (longest (is_string is_on_line) s == 0) then refused.OpenText else refused.BadByte

-- a token; a number may be refused
unfoldable pub token_piece : List ℕ → ℕ → Option Kind → Piece
token_piece s n None = pieces.Nothing (no_token s)
token_piece s n (Some k) = if is_number (take n s) && is_err (literal_of (take n s)) then pieces.Nothing refused.Literal else pieces.Token k n

-- a directive
unfoldable pub directive_piece : List ℕ → Option ((ℕ × ℕ) × List ℕ) → Option (List ℕ) → Piece
directive_piece s (Some x) o = pieces.Scale x.0.0 x.0.1 (length s - length x.1)
directive_piece s None (Some rest) = pieces.Passed (length s - length rest)
directive_piece s None None = pieces.Nothing refused.Directive

-- what a text begins with
unfoldable pub piece_at : List ℕ → Piece
piece_at s =
    if nat_lt 0 (longest is_separator s) then pieces.Passed (longest is_separator s)
    else (if starts_with nat_eq s (codes "/*") then pieces.Nothing refused.OpenComment
    else (if starts_with nat_eq s (codes "`") then directive_piece s (timescale_at s) (nettype_at s)
    else token_piece s (longest is_token s) (kind_of (take (longest is_token s) s))))

-- ---- the whole text

-- the place after a byte
unfoldable pub after : ℕ → Place → Place
after c p = if c == code "\n" then record { file = p.file; line = p.line + 1; col = 1 } else record { file = p.file; line = p.line; col = p.col + 1 }

-- the first place of a file
unfoldable pub start : ℕ → Place
start file = record { file = file; line = 1; col = 1 }

-- the kinds whose bytes are kept
abbrev pub keeps_text : Kind → Bool
keeps_text kinds.Name = true
keeps_text kinds.SystemName = true
keeps_text kinds.Number = true
keeps_text kinds.TimeLiteral = true
keeps_text kinds.StringLiteral = true
keeps_text k = false

-- a token, with its bytes where they are kept
abbrev pub token_of : Kind → Place → List ℕ → Token
token_of k at w = record { kind = k; at = at; text = if keeps_text k then w else [] }

-- the token behind the last
abbrev pub end_of_text : Place → Token
end_of_text at = record { kind = kinds.EndOfText; at = at; text = [] }

-- a time scale at a place
abbrev pub scale_of : ℕ → ℕ → Place → Timescale
scale_of unit precision at = record { unit = unit; precision = precision; at = at }

-- up to the first fault, or to the end
pub record Reading : Type 0 where
  pub tokens : List Token
  pub scales : List Timescale
  pub fault : Option (Refused × Place)

-- a token before what follows
abbrev pub with_token : Token → Reading → Reading
with_token t r = record { tokens = t ∷ r.tokens; scales = r.scales; fault = r.fault }

-- a time scale before what follows
abbrev pub with_scale : Timescale → Reading → Reading
with_scale t r = record { tokens = r.tokens; scales = t ∷ r.scales; fault = r.fault }

-- a fault, with which nothing is read any more
abbrev pub stopped : Refused → Place → Reading
stopped why at = record { tokens = []; scales = []; fault = Some (why, at) }

-- the greatest number of tokens of a text, without the one for its end (own)
abbrev pub most_tokens : ℕ
most_tokens = 2 ^ 21

-- a piece, and what others say of the text after it; count is the number of tokens before
unfoldable pub with_piece : Piece → ℕ → Place → List ℕ → (ℕ → ℕ → Reading) → Reading
with_piece (pieces.Passed n) count at s others = others count n
with_piece (pieces.Scale unit precision n) count at s others = with_scale (scale_of unit precision at) (others count n)
with_piece (pieces.Token k n) count at s others =
    if count == most_tokens then stopped refused.TooManyTokens at
    else with_token (token_of k at (take n s)) (others (count + 1) n)
with_piece (pieces.Nothing why) count at s others = stopped why at

-- the text from a place on, of which the first k bytes belong to the piece before
unfoldable pub reading : ℕ → ℕ → Place → List ℕ → Reading
reading count k at [] = record { tokens = end_of_text at ∷ []; scales = []; fault = None }
reading count (suc k) at (c ∷ cs) = reading count k (after c at) cs
reading count zero at (c ∷ cs) = with_piece (piece_at (c ∷ cs)) count at (c ∷ cs) (λ count' n. reading count' (n - 1) (after c at) cs)

-- ---- what is read

-- the reading of a whole text
abbrev pub whole : ℕ → List ℕ → Reading
whole file text = reading 0 0 (start file) text

-- the first place where nothing can be read, with its kind
abbrev pub lex_fault : ℕ → List ℕ → Option (Refused × Place)
lex_fault file text = (whole file text).fault

-- the text has these tokens, and no fault
pub record Lexes (file : ℕ) (text : List ℕ) (tokens : List Token) : Type 0 where
  pub no_fault : lex_fault file text ≡ None
  pub same : tokens ≡ (whole file text).tokens

-- the time scales of a text, in order
abbrev pub scales : ℕ → List ℕ → List Timescale
scales file text = (whole file text).scales
