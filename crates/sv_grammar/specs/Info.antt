-- What begins a text, with what it may go on, and whether it may be empty.
use Rattle.std.specs.Prelude.{ℕ, Bool, true, false, List, [], ◌∷◌, ◌++◌, if◌then◌else◌, ◌&&◌}

-- first: the kinds that begin a text that isn't empty. cont: the kinds with which a text may go on
-- where one could end before them. null: whether there is an empty text
pub record Info : Type 0 where
  pub first : List ℕ
  pub cont : List ℕ
  pub null : Bool

-- of texts of one grammar and then of another
abbrev pub then_info : Info → Info → Info
then_info i j = record {
  first = if i.null then i.first ++ j.first else i.first;
  cont = if j.null then j.cont ++ i.cont else j.cont;
  null = i.null && j.null;
}

-- of the empty text
abbrev pub return_info : Info
return_info = record { first = []; cont = []; null = true }

-- of single tokens of these kinds
abbrev pub one_info : List ℕ → Info
one_info ks = record { first = ks; cont = []; null = false }

-- of texts of one grammar or another; the first has no empty text
abbrev pub or_info : Info → Info → Info
or_info i j = record { first = i.first ++ j.first; cont = i.cont ++ (if j.null then j.cont ++ i.first else j.cont); null = j.null }

-- of texts of a grammar, or none where its kinds are not next
abbrev pub unless_info : Info → Info
unless_info i = record { first = i.first; cont = i.cont; null = true }

-- of any number of texts
abbrev pub run_info : Info → Info
run_info i = record { first = i.first; cont = i.cont ++ i.first; null = true }

-- whether there is a kind in the list
abbrev pub is_some_kind : List ℕ → Bool
is_some_kind [] = false
is_some_kind (k ∷ ks) = true
