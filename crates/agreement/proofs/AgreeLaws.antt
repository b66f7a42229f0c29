-- What it means that two nodes agree, in the words of demand 3.
-- Assumes nothing.
use mathlib.Core.Path.{◌≡◌, refl, sym, ap, ◌∙◌}
use mathlib.Core.List.{List, [], ◌∷◌, map}
use Rattle.lists.specs.Lists.{Found, found, nothing, map_found}
use Rattle.bincode.specs.Sizes.{Sizes}
use Rattle.key_gen.specs.KeyGen.{ProposalOf}
use Rattle.key_gen_state.specs.KeyGenState.{KeyGenStateOf}
use Rattle.dynamic_honey_badger.specs.State.{StateOf, era_of, nodes_in, candidate_nodes}
use Rattle.reference.specs.Reference.{PartRef, CandidateRef, RefState}
use Rattle.agreement.specs.Shared.{part_ref, candidate_ref}
use Rattle.agreement.specs.Calls.{Call, run, answers}
use Rattle.agreement.specs.Claim.{Agree}
use Rattle.agreement.proofs.KeptLaws.{map_of}
use Rattle.agreement.proofs.Reported.{nodes_of_lem}

-- something of each part of a key generation, in the proposers' order
module _ {A : Type 0} where
  abbrev pub of_parts : (ProposalOf → A) → Found KeyGenStateOf → List A
  of_parts f (found g) = map f g.key_gen.parts
  of_parts f nothing = []

  abbrev of_part_refs : (PartRef → A) → Found CandidateRef → List A
  of_part_refs f (found g) = map f g.parts
  of_part_refs f nothing = []

  parts_shared : (f : PartRef → A) (g : Found KeyGenStateOf) → of_part_refs f (map_found candidate_ref g) ≡ of_parts (λ (q : ProposalOf). f (part_ref q)) g
  parts_shared f nothing = refl
  parts_shared f (found g) = go g.key_gen.parts
    where
      go : (qs : List ProposalOf) → map f (map part_ref qs) ≡ map (λ (q : ProposalOf). f (part_ref q)) qs
      go [] = refl
      go (q ∷ qs) = ap (λ (xs : List A). f (part_ref q) ∷ xs) (go qs)

-- both hold the same era, map, parameters, committed votes, candidate map, proposers of parts with their commitments and acknowledgers, and have answered alike
pub agree_says : (z : Sizes) (s : StateOf) (cs : List Call) (t : StateOf) (ds : List Call) → Agree z s cs t ds
    → let a = run z s cs in let b = run z t ds in
    (era_of a ≡ era_of b)
    × (nodes_in a ≡ nodes_in b)
    × (a.params ≡ b.params)
    × (a.counter.committed ≡ b.counter.committed)
    × (candidate_nodes a.key_gen ≡ candidate_nodes b.key_gen)
    × (of_parts (λ (q : ProposalOf). q.proposer) a.key_gen ≡ of_parts (λ (q : ProposalOf). q.proposer) b.key_gen)
    × (of_parts (λ (q : ProposalOf). q.commit) a.key_gen ≡ of_parts (λ (q : ProposalOf). q.commit) b.key_gen)
    × (of_parts (λ (q : ProposalOf). q.acks) a.key_gen ≡ of_parts (λ (q : ProposalOf). q.acks) b.key_gen)
    × (answers z s cs ≡ answers z t ds)
agree_says z s cs t ds e =
    let a = run z s cs in
    let b = run z t ds in (
      ap (λ (r : RefState). r.era) e.0,
      ap (λ (r : RefState). r.nodes) e.0,
      ap (λ (r : RefState). r.params) e.0,
      ap (λ (r : RefState). r.votes) e.0,
      sym (nodes_of_lem a.key_gen) ∙ ap (λ (r : RefState). map_found map_of r.candidate) e.0 ∙ nodes_of_lem b.key_gen,
      part (λ (q : PartRef). q.proposer),
      part (λ (q : PartRef). q.commit),
      part (λ (q : PartRef). q.acks),
      e.1,
    )
  where
    part : {A : Type 0} (f : PartRef → A) → of_parts (λ (q : ProposalOf). f (part_ref q)) (run z s cs).key_gen ≡ of_parts (λ (q : ProposalOf). f (part_ref q)) (run z t ds).key_gen
    part f = sym (parts_shared f (run z s cs).key_gen) ∙ ap (λ (r : RefState). of_part_refs f r.candidate) e.0 ∙ parts_shared f (run z t ds).key_gen
