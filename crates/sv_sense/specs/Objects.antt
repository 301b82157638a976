-- The objects whose change can fire an event expression (IEEE 1800-2017, 9.4.2).
use Rattle.std.specs.Prelude.{◌≡◌, Bool, List, [], ◌∷◌, ◌++◌, map, ◌==◌}
use Rattle.std.specs.List.{list_any}
use Rattle.sv_value.specs.declared.number.ObjId.{ObjId}
use Rattle.sv_flat.specs.declared.design.Parts.{Parts}
use Rattle.sv_flat.specs.declared.process.Watch.{Watch}
use Rattle.sv_flat.specs.declared.process.Watch.TheVariants.{On, Updates}
use Rattle.sv_flat.specs.Expr.{Expr}
use Rattle.sv_flat.specs.Names.{Naming, expr_reads}
use Rattle.sv_built.specs.declared.wait.Wait.{Wait}
use Rattle.sv_built.specs.Waits.{watches_at}

-- the object that is named
abbrev pub object_named : Naming → ObjId
object_named n = n.object

-- the objects that are named
abbrev pub objects_named : List Naming → List ObjId
objects_named ns = map object_named ns

-- the objects that an expression reads
abbrev pub expr_objects : Expr → List ObjId
expr_objects e = objects_named (expr_reads e)

-- those of an event expression, but for its `iff`, of which no change fires it
abbrev pub watch_objects : Watch → List ObjId
watch_objects (On e g c) = expr_objects e
watch_objects (Updates k n) = []

-- those of event expressions
abbrev pub watches_objects : List Watch → List ObjId
watches_objects [] = []
watches_objects (w ∷ ws) = watch_objects w ++ watches_objects ws

-- those of what is waited for
abbrev pub wait_objects : Parts → Wait → List ObjId
wait_objects d w = watches_objects (watches_at d w)

-- an object is among these
abbrev pub is_among : ObjId → List ObjId → Bool
is_among o os = list_any (λ p. o.0 == p.0) os

-- what is named, behind objects that were named before
abbrev pub Named : List ObjId → List ObjId → List Naming → Type 0
Named before after ns = after ≡ before ++ objects_named ns

-- what event expressions read, behind such objects
abbrev pub Read : List ObjId → List ObjId → List Watch → Type 0
Read before after ws = after ≡ before ++ watches_objects ws
