-- The methods of arrays, strings, enums, events, mailboxes and semaphores (IEEE 1800-2017, 6.16, 6.19, 7.5 to 7.10 and 15).
use Rattle.std.specs.Prelude.{ℕ, Bool, true, false, List, [], ◌∷◌, Option, Some, None, if◌then◌else◌, codes}
use Rattle.sv_flat.specs.declared.call.End.TheVariants.{Front, Back}
use Rattle.sv_flat.specs.declared.call.WalkStep.TheVariants as walk
use Rattle.sv_names.specs.declared.method.Action.{Action}
use Rattle.sv_names.specs.declared.method.Action.TheVariants.{Push, Pop, Insert, Delete, Size, Exists, Walk, Put, Get, Messages, PutKeys, GetKeys, Name, Length, Triggered}
use Rattle.sv_names.specs.declared.method.Outcome.{Outcome}
use Rattle.sv_names.specs.declared.method.Outcome.TheVariants.{NothingAtOnce, NothingLater, Value}
use Rattle.sv_names.specs.declared.method.Method.{Method}
use Rattle.sv_names.specs.declared.ty.Ty.{Ty}
use Rattle.sv_names.specs.declared.ty.Ty.TheVariants.{Text, Event, Semaphore, Mailbox, MailboxOf, Queue, Dynamic, Assoc, Enum, Nothing}
use Rattle.sv_names.specs.Types.{int_type, plain_vector, same_bytes, as_type}

-- a method that changes something
abbrev pub calling : Action → ℕ → ℕ → Outcome → Method
calling a l m g = record { action = a; least = l; most = m; gives = g; is_call = true }

-- a method that is an operator
abbrev pub operating : Action → ℕ → Ty → Method
operating a n t = record { action = a; least = n; most = n; gives = Value t; is_call = false }

-- methods by their names
abbrev pub Table : Type 0
Table = List (List ℕ × Method)

-- the method of a name
abbrev pub in_table : List ℕ → Table → Option Method
in_table x [] = None
in_table x (e ∷ es) = if same_bytes x e.0 then Some e.1 else in_table x es

-- those of queues (7.10.2)
abbrev pub queue_methods : Ty → Table
queue_methods t =
    (codes "push_back", calling (Push Back) 1 1 NothingAtOnce)
    ∷ (codes "push_front", calling (Push Front) 1 1 NothingAtOnce)
    ∷ (codes "pop_back", calling (Pop Back) 0 0 (Value t))
    ∷ (codes "pop_front", calling (Pop Front) 0 0 (Value t))
    ∷ (codes "insert", calling Insert 2 2 NothingAtOnce)
    ∷ (codes "delete", calling Delete 0 1 NothingAtOnce)
    ∷ (codes "size", operating Size 0 int_type) ∷ []

-- those of dynamic arrays (7.5)
abbrev pub dynamic_methods : Table
dynamic_methods = (codes "size", operating Size 0 int_type) ∷ (codes "delete", calling Delete 0 0 NothingAtOnce) ∷ []

-- those of associative arrays (7.9)
abbrev pub assoc_methods : Table
assoc_methods =
    (codes "num", operating Size 0 int_type)
    ∷ (codes "exists", operating Exists 1 int_type)
    ∷ (codes "delete", calling Delete 0 1 NothingAtOnce)
    ∷ (codes "first", calling (Walk walk.First) 1 1 (Value int_type))
    ∷ (codes "last", calling (Walk walk.Last) 1 1 (Value int_type))
    ∷ (codes "next", calling (Walk walk.Next) 1 1 (Value int_type))
    ∷ (codes "prev", calling (Walk walk.Prev) 1 1 (Value int_type)) ∷ []

-- those of mailboxes (15.4)
abbrev pub mailbox_methods : Table
mailbox_methods =
    (codes "put", calling (Put true) 1 1 NothingLater)
    ∷ (codes "get", calling (Get false true) 1 1 NothingLater)
    ∷ (codes "peek", calling (Get true true) 1 1 NothingLater)
    ∷ (codes "try_put", calling (Put false) 1 1 (Value int_type))
    ∷ (codes "try_get", calling (Get false false) 1 1 (Value int_type))
    ∷ (codes "try_peek", calling (Get true false) 1 1 (Value int_type))
    ∷ (codes "num", operating Messages 0 int_type) ∷ []

-- those of semaphores (15.3)
abbrev pub semaphore_methods : Table
semaphore_methods =
    (codes "get", calling (GetKeys true) 0 1 NothingLater) ∷ (codes "put", calling PutKeys 0 1 NothingAtOnce)
    ∷ (codes "try_get", calling (GetKeys false) 0 1 (Value int_type)) ∷ []

-- the methods of a type; of enums, strings and events by 6.19.5, 6.16.1 and 15.5.3
abbrev pub methods_of : Ty → Table
methods_of (Queue t) = queue_methods (as_type t)
methods_of (Dynamic t) = dynamic_methods
methods_of (Assoc k t) = assoc_methods
methods_of Mailbox = mailbox_methods
methods_of (MailboxOf t) = mailbox_methods
methods_of Semaphore = semaphore_methods
methods_of (Enum s at t b w) = (codes "name", operating Name 0 Text) ∷ []
methods_of Text = (codes "len", operating Length 0 int_type) ∷ []
methods_of Event = (codes "triggered", operating Triggered 0 (plain_vector 1 false false)) ∷ []
methods_of t = []

-- the method of a type by its name
abbrev pub method_of : Ty → List ℕ → Option Method
method_of t x = in_table x (methods_of t)

-- the type of what a method gives
abbrev pub type_given : Outcome → Ty
type_given (Value t) = t
type_given g = Nothing

-- whether it stands for a value
abbrev pub gives_value : Outcome → Bool
gives_value (Value t) = true
gives_value g = false

-- whether it is a task
abbrev pub may_wait : Outcome → Bool
may_wait NothingLater = true
may_wait g = false
