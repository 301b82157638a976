-- What look-up finds fits where what is declared does.
use Rattle.std.proofs.Common.{ℕ, zero, suc, List, [], ◌∷◌, Option, Some, None, option_map, if◌then◌else◌}
use Rattle.sv_names.specs.declared.around.ClassInfo.{ClassInfo}
use Rattle.sv_names.specs.declared.checked.Checked.{Checked}
use Rattle.sv_names.specs.declared.checked.Checked.TheVariants.{Good, Broken}
use Rattle.sv_names.specs.declared.named.Known.{Known}
use Rattle.sv_names.specs.declared.named.Named.{Named}
use Rattle.sv_names.specs.declared.named.Named.TheVariants.{Local, Itself}
use Rattle.sv_names.specs.declared.named.ResultVariable.TheVariants as result_variable
use Rattle.sv_names.specs.declared.scope.Scope.{Scope}
use Rattle.sv_names.specs.Named.{Around, Found, further, local_size, at_level, placed_at, value_found, declared_in, in_known, nearest, declared_from, found, class_in, and_bases, line_from, how_many, member_in}
use Rattle.sv_names.specs.Types.{Path, same_bytes, same_path}
use Rattle.sv_elab_laws.specs.Fits.{Enums, Keeps, NameFits, DeclaredFits, KnownFit, ScopesFit, ClassesFit, DollarFits, AroundFits}
use Rattle.sv_elab_laws.proofs.Kept.{KeepsSome, if_each}

module _ (enums : Enums) where
  -- ---- names

  -- a variable stays what it is at every level
  level_fits : (up place : ℕ) (n : Named) → NameFits enums n → NameFits enums (at_level up place n)
  level_fits up place (Local u p t) h = h
  level_fits up place (Itself c (result_variable.Local u p t)) h = h
  level_fits up place n h = h

  placed_fits : (up place : ℕ) (c : Checked Named) → Keeps (NameFits enums) c → Keeps (NameFits enums) (placed_at up place c)
  placed_fits up place (Good n) h = level_fits up place n h
  placed_fits up place (Broken f) h = tt

  -- a declaration that is found
  abbrev FoundFits : Option Found → Type 0
  FoundFits o = KeepsSome (λ (f : Found). Keeps (NameFits enums) f.known.value) o

  declared_fits : (up place : ℕ) (x : List ℕ) (ks : List Known) → KnownFit enums ks → FoundFits (declared_in up place x ks)
  declared_fits up place x [] h = tt
  declared_fits up place x (k ∷ ks) h =
      if_each FoundFits (same_bytes x k.name.text) (Some (record { up = up; place = place; known = k }))
      (declared_in up (further place (local_size k.value)) x ks) h.0 (declared_fits up (further place (local_size k.value)) x ks h.1)

  nearest_fits : (o r : Option Found) → FoundFits o → FoundFits r → FoundFits (nearest o r)
  nearest_fits None r h k = k
  nearest_fits (Some f) r h k = h

  from_fits : (up : ℕ) (x : List ℕ) (ss : List Scope) → ScopesFit enums ss → FoundFits (declared_from up x ss)
  from_fits up x [] h = tt
  from_fits up x (s ∷ ss) h = nearest_fits (declared_in up 0 x s.known) _ (declared_fits up 0 x s.known h.0) (from_fits (if s.enters then further up 1 else up) x ss h.1)

  named_fits : (o : Option Found) → FoundFits o → DeclaredFits enums (option_map value_found o)
  named_fits None h = tt
  named_fits (Some f) h = placed_fits f.up f.place f.known.value h

  -- ---- members

  nearer_fits : (o r : Option (Checked Named)) → DeclaredFits enums o → DeclaredFits enums r → DeclaredFits enums (nearest o r)
  nearer_fits None r h k = k
  nearer_fits (Some c) r h k = h

  member_fits : (x : List ℕ) (ks : List ClassInfo) → ClassesFit enums ks → DeclaredFits enums (member_in x ks)
  member_fits x [] h = tt
  member_fits x (k ∷ ks) h =
      nearer_fits (in_known 0 0 x k.scope.known) (member_in x ks) (named_fits (declared_in 0 0 x k.scope.known) (declared_fits 0 0 x k.scope.known h.0))
      (member_fits x ks h.1)

  class_fits : (ks : List ClassInfo) (p : Path) → ClassesFit enums ks → KeepsSome (λ (k : ClassInfo). KnownFit enums k.scope.known) (class_in ks p)
  class_fits [] p h = tt
  class_fits (k ∷ ks) p h =
      if_each (λ (o : Option ClassInfo). KeepsSome (λ (k : ClassInfo). KnownFit enums k.scope.known) o) (same_path p k.path) (Some k) (class_in ks p)
      h.0 (class_fits ks p h.1)

  and_bases_fit : (go : Option Path → List ClassInfo) (k : Option ClassInfo) → ((b : Option Path) → ClassesFit enums (go b))
      → KeepsSome (λ (k : ClassInfo). KnownFit enums k.scope.known) k → ClassesFit enums (and_bases go k)
  and_bases_fit go None h f = tt
  and_bases_fit go (Some k) h f = (f, h k.base)

  line_fits : (n : ℕ) (ks : List ClassInfo) (p : Option Path) → ClassesFit enums ks → ClassesFit enums (line_from n ks p)
  line_fits zero ks p h = tt
  line_fits (suc n) ks None h = tt
  line_fits (suc n) ks (Some p) h = and_bases_fit (λ b. line_from n ks b) (class_in ks p) (λ b. line_fits n ks b h) (class_fits ks p h)

  -- ---- all names

  -- where each declaration fits, each name does
  pub around_fits : (ar : Around) → ScopesFit enums ar.scopes → ClassesFit enums ar.classes → DollarFits ar.dollar → AroundFits enums ar
  around_fits ar scopes classes dollar =
      record {
        names = λ x. named_fits (declared_from 0 x ar.scopes) (from_fits 0 x ar.scopes scopes);
        members = λ p x. member_fits x (line_from (how_many ar.classes) ar.classes (Some p)) (line_fits (how_many ar.classes) ar.classes (Some p) classes);
        dollar = dollar;
      }
