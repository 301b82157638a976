-- Declarations before the first round: all wait, and announcements of classes are no declarations of their own.
use Rattle.std.specs.Prelude.{List, [], ◌∷◌, ◌++◌, if◌then◌else◌}
use Rattle.sv_names.specs.declared.named.Known.{Known}
use Rattle.sv_names.specs.Entries.{kind_of}
use Rattle.sv_names.specs.Rounds.{waits, is_announcement}
use Rattle.sv_elab_scope.specs.declared.declared.Entry.{Entry}
use Rattle.sv_elab_scope.specs.Views.{entry_in}

-- a declaration, unless it is an announcement
abbrev pub kept : Entry → List Entry
kept e = if is_announcement (entry_in e).what then [] else e ∷ []

-- those that are no announcements
abbrev pub without_announcements : List Entry → List Entry
without_announcements [] = []
without_announcements (e ∷ es) = kept e ++ without_announcements es

-- a declaration that waits
abbrev pub waiting_one : Entry → Known
waiting_one e = record { name = e.name.now; kind = kind_of (entry_in e).what; value = waits }

-- all of a scope
abbrev pub all_waiting : List Entry → List Known
all_waiting [] = []
all_waiting (e ∷ es) = waiting_one e ∷ all_waiting es
