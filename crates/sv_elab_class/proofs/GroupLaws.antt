-- A unit with its classes is settled as the definition says.
use Rattle.std.proofs.Common.{◌≡◌, ℕ, suc, Bool, true, false, List, [], ◌∷◌, ◌++◌, map, refl, sym, ap, subst, ◌∙◌, append_assoc}
use Rattle.sv_names.specs.declared.around.ClassInfo.{ClassInfo}
use Rattle.sv_names.specs.declared.named.Known.{Known}
use Rattle.sv_names.specs.Entries as entries
use Rattle.sv_names.specs.Groups as groups
use Rattle.sv_names.specs.Groups.{Group, Head, group_of, infos_from, info_of, class_rows, with_around, evaluated}
use Rattle.sv_names.specs.Named.{Around}
use Rattle.sv_names.specs.Rounds.{Row, rows_of, settled}
use Rattle.sv_names.specs.Types.{Path}
use Rattle.sv_elab_scope.specs.declared.declared.Entry.{Entry}
use Rattle.sv_elab_scope.specs.Rows.{rows_from, all_rows, all_known, members_known, AllAgree, classes_over, group_over}
use Rattle.sv_elab_scope.specs.Settling.{Meant, prepare_over, evaluated_by}
use Rattle.sv_elab_scope.specs.Starting.{all_waiting}
use Rattle.sv_elab_scope.specs.Ending.{settled_group}
use Rattle.sv_elab_scope.proofs.StartLaws.{lists-agree-waiting, rows_of_lists}
use Rattle.sv_elab_scope.proofs.AloneLaws.{settled-like}
use Rattle.sv_elab_class.specs.Infos.{info_over, infos_waiting, group_waiting, in_unit}
use Rattle.sv_elab_class.specs.Lists.{AllKeep, members_of}

-- a turn appends a class
pub turn_class : (outer : List ClassInfo) (hs : List Head) (h : Head) (more : List Head) (es : List Entry) (lists : List (List Entry))
    (ks js : List ClassInfo) (k : ClassInfo) → js ≡ ks ++ k ∷ [] → k ≡ info_over outer hs h (all_waiting es)
    → js ++ infos_waiting outer hs more lists ≡ ks ++ infos_waiting outer hs (h ∷ more) (es ∷ lists)
turn_class outer hs h more es lists ks js k pushed is =
    ap (λ l. l ++ infos_waiting outer hs more lists) pushed ∙ append_assoc ks (k ∷ []) (infos_waiting outer hs more lists)
    ∙ ap (λ x. ks ++ x ∷ infos_waiting outer hs more lists) is

-- ---- the shape

classes-shape : (ar : Around) (hs : List Head) (rs : List Row) (home : ℕ) (more : List Head) (lists : List (List Entry)) → AllKeep lists (members_of more)
    → classes_over home rs (infos_waiting ar.classes hs more lists) ≡ infos_from ar hs rs home more
classes-shape ar hs rs home [] lists keep = refl
classes-shape ar hs rs home (h ∷ more) [] keep = absurd keep
classes-shape ar hs rs home (h ∷ more) (es ∷ lists) (first, keep) =
    ap (λ cs. info_of ar hs rs home h ∷ cs) (classes-shape ar hs rs (suc home) more lists keep)

group-shape : (ar : Around) (p : Path) (es : List entries.Entry) (hs : List Head) (lists : List (List Entry)) → AllKeep lists (es ∷ members_of hs)
    → (rs : List Row) → group_over (group_waiting ar.classes p hs lists) rs ≡ group_of ar p hs rs
group-shape ar p es hs [] keep rs = absurd keep
group-shape ar p es hs (own ∷ lists) (first, keep) rs =
    ap (λ cs. record { scope = (group_of ar p hs rs).scope; classes = cs }) (classes-shape ar hs rs 1 hs lists keep)

members-wait : (outer : List ClassInfo) (hs more : List Head) (lists : List (List Entry)) → AllKeep lists (members_of more)
    → members_known (infos_waiting outer hs more lists) ≡ map all_waiting lists
members-wait outer hs [] [] keep = refl
members-wait outer hs [] (es ∷ lists) keep = absurd keep
members-wait outer hs (h ∷ more) [] keep = absurd keep
members-wait outer hs (h ∷ more) (es ∷ lists) (first, keep) = ap (λ kss. all_waiting es ∷ kss) (members-wait outer hs more lists keep)

all-wait : (outer : List ClassInfo) (p : Path) (es : List entries.Entry) (hs : List Head) (lists : List (List Entry)) → AllKeep lists (es ∷ members_of hs)
    → all_known (group_waiting outer p hs lists) ≡ map all_waiting lists
all-wait outer p es hs [] keep = absurd keep
all-wait outer p es hs (own ∷ lists) (first, keep) = ap (λ kss. all_waiting own ∷ kss) (members-wait outer hs hs lists keep)

-- ---- the declarations

rows-kept : (h : ℕ) (lists : List (List Entry)) (ess : List (List entries.Entry)) → AllKeep lists ess
    → rows_from h lists (map all_waiting lists) ≡ rows_of_lists h ess
rows-kept h [] [] keep = refl
rows-kept h [] (es ∷ ess) keep = absurd keep
rows-kept h (kept ∷ lists) [] keep = absurd keep
rows-kept h (kept ∷ lists) (es ∷ ess) (first, keep) = λ i. first h i ++ rows-kept (suc h) lists ess keep i

rows-classes : (home : ℕ) (hs : List Head) → rows_of_lists home (members_of hs) ≡ class_rows home hs
rows-classes home [] = refl
rows-classes home (h ∷ hs) = ap (λ rs. rows_of home (entries.class_entries h.path h.tree) ++ rs) (rows-classes (suc home) hs)

-- ---- the whole

module _ (ar : Around) (p : Path) (es : List entries.Entry) (hs : List Head) (lists : List (List Entry)) (keep : AllKeep lists (es ∷ members_of hs)) where
  -- it is settled as the definition says
  pub settled-is : (meant : Meant) (g made : Group) → meant ≡ in_unit → g ≡ group_waiting ar.classes p hs lists
      → (AllAgree lists (all_known g) → made ≡ settled_group meant ar p lists g) → made ≡ groups.settled_group ar p es hs
  settled-is meant g made stands is given =
      let known : all_known g ≡ map all_waiting lists = ap all_known is ∙ all-wait ar.classes p es hs lists keep in
      let agree : AllAgree lists (all_known g) = subst (λ (kss : List (List Known)). AllAgree lists kss) (sym known) (lists-agree-waiting lists) in
      let shape : (rs : List Row) → group_over g rs ≡ group_of ar p hs rs =
      λ rs. ap (λ (x : Group). group_over x rs) is ∙ group-shape ar p es hs lists keep rs in
      let rows : all_rows lists g ≡ rows_of 0 es ++ class_rows 1 hs =
      ap (rows_from 0 lists) known ∙ rows-kept 0 lists (es ∷ members_of hs) keep ∙ ap (λ rs. rows_of 0 es ++ rs) (rows-classes 1 hs) in
      given agree
      ∙ ap (λ (m : Meant). settled_group m ar p lists g) stands
      ∙ ap (group_over g)
      (settled-like (prepare_over ar g) (evaluated_by in_unit false p) (evaluated_by in_unit true p) (λ rs. with_around ar (group_of ar p hs rs))
      (evaluated false p) (evaluated true p) (λ rs r. ap (λ (x : Group). evaluated false p (with_around ar x) r) (shape rs))
      (λ rs r. ap (λ (x : Group). evaluated true p (with_around ar x) r) (shape rs)) (all_rows lists g))
      ∙ shape _
      ∙ ap (λ rs. group_of ar p hs (settled (λ qs. with_around ar (group_of ar p hs qs)) (evaluated false p) (evaluated true p) rs)) rows
