-- What an evaluation answers, against the definition (IEEE 1800-2017, 11).
use Rattle.std.specs.Prelude.{◌≡◌, Bool, [], Option, None, Some, Result, Ok, Err, ℤ, ℕ}
use Rattle.sv_value.specs.declared.word.Sym.{Sym}
use Rattle.sv_value.specs.declared.val.Val.{Val}
use Rattle.sv_value.specs.declared.val.Plain.{Plain}
use Rattle.sv_value.specs.declared.operator.BinOp.{BinOp}
use Rattle.sv_flat.specs.declared.object.Bounds.{Bounds}
use Rattle.sv_flat.specs.declared.context.Context.{Context}
use Rattle.sv_flat.specs.declared.context.Operands.{Operands}
use Rattle.sv_flat.specs.Expr.{Expr}
use Rattle.sv_flat.specs.State.{View, no_value, initial_of}
use Rattle.sv_flat.specs.Eval.{Valued, eval, width_of, is_signed, by_operands, element_place, with_result, bits, compared, selected, vector_in, known_index}
use Rattle.sv_eval.specs.declared.stopped.Stopped.{Stopped}
use Rattle.sv_eval.specs.declared.stopped.Stopped.TheVariants.{Memory, Fault}

-- the expression meets this fault, or memory ran out
abbrev pub Stops : Stopped → Valued → Type 0
Stops (Fault k) r = r ≡ Err k
Stops Memory r = Unit {0}

-- the expression has this value, or meets this fault; or memory ran out
abbrev pub Evaluates : Result Val Stopped → Valued → Type 0
Evaluates (Ok x) r = r ≡ Ok x
Evaluates (Err e) r = Stops e r

-- what constants are evaluated in: nothing (11.2.1)
abbrev pub nowhere : View
nowhere =
    record {
      object = λ o i. no_value;
      variable = λ u p. no_value;
      name = λ u. None;
      heap = record { objects = []; containers = []; mailboxes = []; semaphores = []; events = [] };
      now = 0;
      unit = 1;
    }

-- ---- parts of the definition, by the context as the code keeps it

-- an operation on its operands, in a context
abbrev pub operation : Operands → BinOp → Context → Expr → Expr → View → Valued
operation o op c a b v =
    by_operands o op c.width c.signed (width_of a) (is_signed a) (width_of b) (is_signed b)
    (λ n t. eval a n t v) (λ n t. eval b n t v)

-- a comparison of its operands in a context of their own
abbrev pub compared_in : (inner : Context) → BinOp → Context → Expr → Expr → View → Valued
compared_in inner op c a b v =
    with_result (eval a inner.width inner.signed v) (λ x.
    with_result (eval b inner.width inner.signed v) (λ y. bits c.width c.signed (compared op x y)))

-- a select by the values of its base and its index, in a context
abbrev pub selected_in : Context → (width : ℕ) → (offset : ℤ) → (is_falling : Bool) → (outside : Sym) → (base index : Val) → Valued
selected_in c w o f outside x y = bits c.width c.signed (selected w o f outside (vector_in x) (known_index (vector_in y)))

-- the place in a fixed array that an index stands for
abbrev pub place_at : Bounds → Option ℤ → Option ℕ
place_at b None = None
place_at b (Some i) = element_place b i

-- the value at a place, or the initial value of the type
abbrev pub value_or_initial : Plain → (ℕ → Val) → Option ℕ → Val
value_or_initial t read None = initial_of t
value_or_initial t read (Some n) = read n
