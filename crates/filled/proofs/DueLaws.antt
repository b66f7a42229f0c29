-- Laws of the three lent lists of due items: acks of one era, and a part behind them.
-- Assumes nothing.
use Prim.Native.Nat.{ℕ}
use mathlib.Core.Path.{◌≡◌, sym, ap, ◌∙◌, subst}
use mathlib.Core.List.{List, [], ◌∷◌, ◌++◌, map, map-append, append-nil}
use lib.ListN.{length, set, length-map}
use Rattle.std.proofs.lemmas.Simd.{map-map}
use Rattle.std.specs.Prelude.{Some, None}
use Rattle.due.specs.declared.DueKind.TheVariants.{Part}
use Rattle.due.specs.declared.DueItem.{DueItem}
use Rattle.due.specs.Due.{ack_item}
use Rattle.filled.specs.Filled.{filled, shorter}
use Rattle.filled.specs.Numbers.{due_kind, due_index, due_era, DueIn, owed, due_places}
use Rattle.filled.proofs.FillLaws.{filled_none, filled_next}

pub due_none : (kinds indices eras : List ℕ) → DueIn [] kinds kinds indices indices eras eras
due_none kinds indices eras = (sym (filled_none kinds), sym (filled_none indices), sym (filled_none eras))

module _ (kinds kinds' indices indices' eras eras' : List ℕ) where
  -- the same items under another name
  pub due_same : (xs ys : List DueItem) → xs ≡ ys → DueIn xs kinds kinds' indices indices' eras eras' → DueIn ys kinds kinds' indices indices' eras eras'
  due_same xs ys e p = subst (λ (ds : List DueItem). DueIn ds kinds kinds' indices indices' eras eras') e p

  -- acks of an era, whose kinds and eras are all alike
  module _ (era : ℕ) (acks : List ℕ) (k : kinds' ≡ filled (map (λ (i : ℕ). 1) acks) kinds) (i : indices' ≡ filled (map (λ (j : ℕ). j) acks) indices)
      (e : eras' ≡ filled (map (λ (j : ℕ). era) acks) eras) where
    abbrev ds : List DueItem
    ds = map (ack_item era) acks

    each : (f : DueItem → ℕ) (old list : List ℕ) → list ≡ filled (map (λ (j : ℕ). f (ack_item era j)) acks) old → list ≡ filled (map f ds) old
    each f old list q = q ∙ ap (λ (xs : List ℕ). filled xs old) (sym (map-map f (ack_item era) acks))

    pub acks_alone : DueIn (owed era acks None) kinds kinds' indices indices' eras eras'
    acks_alone = due_same ds (ds ++ []) (sym (append-nil ds)) (each due_kind kinds kinds' k, each due_index indices indices' i, each due_era eras eras' e)

    -- a part is stored behind them
    module _ (next : ℕ) where
      abbrev part : DueItem
      part = record { kind = Part; era = next }

      behind : (f : DueItem → ℕ) (old list after : List ℕ) → list ≡ filled (map f ds) old → after ≡ set list (length acks) (f part) → after ≡ filled (map f (ds ++ (part ∷ []))) old
      behind f old list after p q =
          rw (map-append f ds (part ∷ []), q, p) (filled_next (map f ds) old (length acks) (f part) (length-map ds f ∙ length-map acks (ack_item era)))

      pub acks_and_part : (kinds'' indices'' eras'' : List ℕ) → kinds'' ≡ set kinds' (length acks) 0 → indices'' ≡ set indices' (length acks) 0 → eras'' ≡ set eras' (length acks) next
          → DueIn (owed era acks (Some next)) kinds kinds'' indices indices'' eras eras''
      acks_and_part kinds'' indices'' eras'' a b c = (
        behind due_kind kinds kinds' kinds'' (each due_kind kinds kinds' k) a,
        behind due_index indices indices' indices'' (each due_index indices indices' i) b,
        behind due_era eras eras' eras'' (each due_era eras eras' e) c,
      )

-- two comparisons give the number of places
pub places_counted : (kinds indices eras : List ℕ) (m d : ℕ) → m ≡ shorter (length kinds) (length indices) → d ≡ shorter m (length eras) → d ≡ due_places kinds indices eras
places_counted kinds indices eras m d e f = f ∙ ap (λ (k : ℕ). shorter k (length eras)) e
