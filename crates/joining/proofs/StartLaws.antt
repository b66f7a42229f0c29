-- Laws of starting and joining: empty maps, and what is passed on of the readings.
-- Assumes nothing.
use Prim.Native.Nat.{ℕ, suc, ◌≤◌, ◌<◌}
use mathlib.Core.Path.{◌≡◌, refl, sym, ap, ◌∙◌}
use mathlib.Core.List.{List, [], ◌∷◌}
use mathlib.Core.Bool.{false}
use native.Mathlib.Omega.{arith}
use lib.Dec.{eqb}
use lib.ListN.{length}
use borrow.Author.Tests.{lt-ltb, le-ltb, ne_eqb}
use Rattle.std.specs.declared.result.Result.TheVariants.{Ok}
use Rattle.bincode.specs.Answer.{answer}
use Rattle.bincode.specs.Read.{value, refuse, whole}
use Rattle.bincode.specs.Outcome.{done, refused}
use Rattle.bincode.specs.Numbers.{fixed}
use Rattle.bincode.specs.Sizes.{Sizes, base}
use Rattle.bincode.proofs.ReadLaws.{answer_ok}
use Rattle.lists.proofs.ListLaws.{take_padded}
use Rattle.pub_key_map.specs.declared.Node.{Node}
use Rattle.pub_key_map.specs.declared.PubKeyMap.{PubKeyMap}
use Rattle.pub_key_map.specs.PubKeyMap.{no_node, nodes_of, map_held, read_map}
use Rattle.params.specs.declared.Params.{Params}
use Rattle.params.specs.Params.{read_params}
use Rattle.join_plan.specs.JoinPlan.{read_plan}
use Rattle.joining.specs.Starting.{is_empty, join_checked, start_map, start_checked, start_of}

-- a map is empty where its length is 0
pub empty_length : (ns : List Node) → eqb (length ns) 0 ≡ is_empty ns
empty_length [] = refl
empty_length (n ∷ ns) = ne_eqb (suc (length ns)) 0 (λ e. let z : ⊥ = omega arith in z)

-- joining, row 1: too few places
pub join_places : (z : Sizes) (places id key : ℕ) (s : List ℕ) → places < z.due → join_checked z places id key s ≡ refused 1
unfolding join_checked
join_places z places id key s h = rw (lt-ltb places z.due h)

-- joining: the plan's refusal is the call's
pub join_refused : (z : Sizes) (places id key : ℕ) (s : List ℕ) → z.due ≤ places
    → (n : ℕ) → whole (read_plan fixed z s) s ≡ refuse n → join_checked z places id key s ≡ refused n
unfolding join_checked
join_refused z places id key s h n r = rw (le-ltb places z.due h, r)

-- starting: the map's reading, then the parameters'
module _ (z : Sizes) (key : ℕ) (map params : List ℕ) where
  -- the map's refusal is the call's
  pub start_map_refused : (n : ℕ) → whole (read_map fixed z map) map ≡ refuse n → start_checked z key map params ≡ refused n
  unfolding start_checked
  start_map_refused n r = rw r

  -- the parameters' refusal is the call's
  pub start_params_refused : (ns : List Node) (c : ℕ) → whole (read_map fixed z map) map ≡ value ns c
      → (n : ℕ) → whole (read_params fixed params) params ≡ refuse n → start_checked z key map params ≡ refused n
  unfolding start_checked
  start_params_refused ns c m n r = rw (m, r)

-- both were read, there is an own key, and the map is not empty: a node may start
pub start_done : (key : ℕ) (map params : List ℕ) (m : PubKeyMap) (c : ℕ) (p : Params) (d : ℕ)
    → answer map_held (whole (read_map fixed base map) map) ≡ Ok (m, c)
    → answer (λ (x : Params). x) (whole (read_params fixed params) params) ≡ Ok (p, d)
    → (key ≡ 0 → ⊥) → (length (nodes_of m) ≡ 0 → ⊥) → start_checked base key map params ≡ done (start_of (m, p))
unfolding start_checked start_map
start_done key map params m c p d e f k l =
    let x = answer_ok map_held (whole (read_map fixed base map) map) m c e in
    let y = answer_ok (λ (x : Params). x) (whole (read_params fixed params) params) p d f in
    let held : nodes_of m ≡ x.0 = ap nodes_of x.2 ∙ take_padded base.nodes no_node x.0 in
    let some : is_empty x.0 ≡ false = sym (empty_length x.0) ∙ ne_eqb (length x.0) 0 (λ q. l (ap length held ∙ q)) in
    rw (x.1, y.1, ne_eqb key 0 k, some) (λ i. done (record { keys = sym held i; params = sym y.2 i }))
