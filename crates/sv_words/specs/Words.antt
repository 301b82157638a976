-- What the words of the command line ask for.
use Rattle.std.specs.Prelude.{ℕ, ◌^◌, ◌-◌, Bool, false, not, ◌==◌, ◌&&◌, List, [], ◌∷◌, Option, None, Some, nat_le, nat_lt, length, take, drop, map, codes, option_and_then, option_map, string_bytes, if◌then◌else◌}
use Rattle.std.specs.List.{prefix_len}
use Rattle.std.specs.Str.{bytes_eq}
use Rattle.sv_words.specs.Digits.{is_number, number_of}
use Rattle.sv_words.specs.declared.words.Limits.{Limits}
use Rattle.sv_words.specs.declared.words.Simulation.{Simulation}
use Rattle.sv_words.specs.declared.words.Task.{Task}
use Rattle.sv_words.specs.declared.words.Task.TheVariants.{Run}

-- a run of the design of these files, under the unit that is named or under all that are nowhere instantiated, with the numbers of the Active list,
-- and at most so many steps
pub record Asked : Type 0 where
  pub files : List (List ℕ)
  pub top : Option (List ℕ)
  pub active : List ℕ
  pub steps : ℕ

-- at most so many files may be named
abbrev pub MOST_FILES : ℕ
MOST_FILES = 1000

-- ---- numbers

-- a number has at most this many digits
abbrev pub MOST_DIGITS : ℕ
MOST_DIGITS = 20

-- a list of choices has at most this many numbers
abbrev pub MOST_CHOICES : ℕ
MOST_CHOICES = 65536

-- a number within a bound that is passed by none
unfoldable pub number_within : ℕ → List ℕ → Option ℕ
number_within most digits = if is_number MOST_DIGITS digits && nat_le (number_of digits) most then Some (number_of digits) else None

-- a byte before the first part
abbrev pub with_first : ℕ → List (List ℕ) → List (List ℕ)
with_first b [] = (b ∷ []) ∷ []
with_first b (p ∷ ps) = (b ∷ p) ∷ ps

-- the parts of a text between commas
abbrev pub between_commas : List ℕ → List (List ℕ)
between_commas [] = [] ∷ []
between_commas (b ∷ bs) = if b == 44 then [] ∷ between_commas bs else with_first b (between_commas bs)

-- the numbers of parts, if each is a choice: a number below 2^32
abbrev pub choices_of : List (List ℕ) → Option (List ℕ)
choices_of [] = Some []
choices_of (p ∷ ps) = option_and_then (λ n. option_map (λ ns. n ∷ ns) (choices_of ps)) (number_within (2 ^ 32 - 1) p)

-- not too many of them
abbrev pub few : List ℕ → Option (List ℕ)
few ns = if nat_le (length ns) MOST_CHOICES then Some ns else None

-- a list of choices; the empty word has none
unfoldable pub choice_list : List ℕ → Option (List ℕ)
choice_list [] = Some []
choice_list (b ∷ bs) = option_and_then few (choices_of (between_commas (b ∷ bs)))

-- ---- words

-- a word begins with `-`
abbrev pub is_option : List ℕ → Bool
is_option [] = false
is_option (b ∷ bs) = b == 45

-- a word that is no option
abbrev pub is_name : List ℕ → Bool
is_name w = not (is_option w)

-- the words before the first that begins with `-`
abbrev pub names_in : List (List ℕ) → List (List ℕ)
names_in words = take (prefix_len is_name words) words

-- that word and those behind it
abbrev pub behind_names : List (List ℕ) → List (List ℕ)
behind_names words = drop (prefix_len is_name words) words

-- the first words are `--top NAME`, where NAME does not begin with `-`
abbrev pub names_top : (w name : List ℕ) → Bool
names_top w name = bytes_eq w (codes "--top") && not (is_option name)

-- the name of `[--top NAME]`
abbrev pub top_in : List (List ℕ) → Option (List ℕ)
top_in (w ∷ name ∷ rest) = if names_top w name then Some name else None
top_in _ = None

-- the words behind `[--top NAME]`
abbrev pub behind_top : List (List ℕ) → List (List ℕ)
behind_top (w ∷ name ∷ rest) = if names_top w name then rest else w ∷ name ∷ rest
behind_top words = words

-- the list of `[--active L]` as it is written, which is empty where there is none
abbrev pub list_in : List (List ℕ) → List ℕ
list_in (w ∷ l ∷ rest) = if bytes_eq w (codes "--active") then l else []
list_in _ = []

-- the words behind `[--active L]`
abbrev pub behind_list : List (List ℕ) → List (List ℕ)
behind_list (w ∷ l ∷ rest) = if bytes_eq w (codes "--active") then rest else w ∷ l ∷ rest
behind_list words = words

-- `[--steps N]`
abbrev pub steps_in : Limits → List (List ℕ) → Option ℕ
steps_in l [] = Some l.usual_steps
steps_in l (w ∷ n ∷ []) = if bytes_eq w (codes "--steps") then number_within l.most_steps n else None
steps_in l _ = None

-- `[--active L] [--steps N]`, behind the files and the name of their root
abbrev pub asked_under : Limits → (files : List (List ℕ)) → (top : Option (List ℕ)) → List (List ℕ) → Option Asked
asked_under l files top options =
    option_and_then
    (λ active. option_map (λ steps. record { files = files; top = top; active = active; steps = steps }) (steps_in l (behind_list options)))
    (choice_list (list_in options))

-- `[--top NAME] [--active L] [--steps N]`, behind the files
abbrev pub asked_of : Limits → (files : List (List ℕ)) → List (List ℕ) → Option Asked
asked_of l files options = asked_under l files (top_in options) (behind_top options)

-- one file or more, but not too many
abbrev pub are_files : List (List ℕ) → Bool
are_files files = nat_lt 0 (length files) && nat_le (length files) MOST_FILES

-- `run FILE.. [--top NAME] [--active L] [--steps N]`, where no FILE begins with `-`
abbrev pub asked : Limits → List (List ℕ) → Option Asked
asked l [] = None
asked l (command ∷ words) =
    if bytes_eq command (codes "run") && are_files (names_in words) then asked_of l (names_in words) (behind_names words) else None

-- ---- what is read

-- what a simulation is asked for by
abbrev pub asked_for : Simulation → Asked
asked_for s = record { files = map string_bytes s.files.now; top = option_map (λ x. x.now) s.top; active = s.active; steps = s.steps }

-- what a task asks for
abbrev pub asked_by : Task → Asked
asked_by (Run s) = asked_for s
