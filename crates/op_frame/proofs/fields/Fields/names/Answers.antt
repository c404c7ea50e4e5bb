use Rattle.std.proofs.Common.{List, [], ap, append_assoc, arith, drop, get_or, length, refl, set, subst, sym, take, ℕ, ◌+◌, ◌++◌, ◌-◌, ◌<◌, ◌≤◌, ◌∙◌, ◌∷◌, ◌≡◌}
use Rattle.std.specs.Prelude.{All, flat_map}
use Rattle.std.proofs.lemmas.List.{flat_map_more, length-set, length-take-le, take_more_set}
use Rattle.std.proofs.lemmas.List.Elements.{All-nil, All-push}
use Rattle.fugue_ids.specs.Identifiers.{Identifier}
use Rattle.origin_model.specs.frames.Frames.{IsIdentifier, id_bytes}
use Rattle.op_frame.specs.FrameFronts.{IsIdentifierBytes, Several}
use Rattle.op_frame.proofs.DecodingLemmas.{first_name, head_is, later_names, names_there}
use Rattle.op_frame.proofs.fields.Fields.names.Goals as goal

-- all identifiers were read
all_named : (count place : ℕ) (ids named : List Identifier) → count ≤ length ids → place ≤ count → count ≤ place → named ≡ take count ids
    → (length named ≡ count) × (take place ids ≡ named)
all_named count place ids named within below above is =
    let at : place ≡ count = omega (arith, below, above) in
    (ap length is ∙ length-take-le count ids within, ap (λ (n : ℕ). take n ids) at ∙ sym is)

pub loop-place-init : goal.loop-place-init
loop-place-init c =
    let bytes : List ℕ = c.args.self.now.rest.now in
    let there = names_there bytes c.requires in
    let all : get_or bytes 0 0 ≡ get_or bytes 0 0 - 0 = omega arith in
    record {
      few = there.1;
      room = refl;
      named = All-nil IsIdentifier;
      split = refl;
      due = subst (λ (n : ℕ). Several n IsIdentifierBytes (λ rest. Unit {0}) (take (length bytes - 1) (drop 1 bytes))) all there.2;
    }

pub identifier-requires : goal.identifier-requires
identifier-requires c = first_name _ _ (omega (arith, c.loop-place-test.true)) c.loop-place.invariant.due

pub loop-place-preserved : goal.loop-place-preserved
loop-place-preserved c =
    let at : ℕ = c.loop-place.place in
    let ids : List Identifier = c.loop-place.ids in
    let id : Identifier = c.identifier.result in
    let room : at < length ids = omega (arith, c.loop-place.invariant.few, c.loop-place.invariant.room, c.loop-place-test.true) in
    let one_more : take (at + 1) (set ids at id) ≡ take at ids ++ id ∷ [] = take_more_set ids at id room in
    let before : List ℕ = flat_map id_bytes (take at ids) in
    record {
      few = c.loop-place.invariant.few;
      room = length-set ids at id ∙ c.loop-place.invariant.room;
      named = subst (All IsIdentifier) (sym one_more) (All-push IsIdentifier (take at ids) id c.loop-place.invariant.named c.identifier.ensures.is);
      split = c.loop-place.invariant.split ∙ ap (λ (l : List ℕ). before ++ l) c.identifier.ensures.split ∙ sym (append_assoc before (id_bytes id) c.identifier.new.self.rest.now)
          ∙ ap (λ (l : List ℕ). l ++ c.identifier.new.self.rest.now) (flat_map_more id_bytes [] (take at ids) id ∙ ap (flat_map id_bytes) (sym one_more));
      due = later_names _ _ _ _ id (omega (arith, c.loop-place-test.true)) c.loop-place.invariant.due c.identifier.ensures.is c.identifier.ensures.split;
    }

pub unreachable-requires : goal.unreachable-requires
unreachable-requires c =
    omega (
      arith,
      c.in_default.ensures.none.0 refl,
      c.loop-place.invariant.few,
      length-take-le (get_or c.args.self.now.rest.now 0 0) c.loop-place.ids (omega (arith, c.loop-place.invariant.few, c.loop-place.invariant.room)),
    )

pub returns-clause-split : goal.returns-clause-split
returns-clause-split c =
    let bytes : List ℕ = c.args.self.now.rest.now in
    let named = all_named (get_or bytes 0 0) c.loop-place.place c.loop-place.ids c.in-Some.names
    (omega (arith, c.loop-place.invariant.few, c.loop-place.invariant.room)) c.loop-place.auto.place-end c.loop-place-test.false c.in-Some.ensures.some in
    head_is bytes (get_or bytes 0 0) (names_there bytes c.requires).0 refl
    ∙ (λ i. sym named.0 i ∷ (c.loop-place.invariant.split ∙ ap (λ (ids : List Identifier). flat_map id_bytes ids ++ c.loop-place.self.rest.now) named.1) i)

pub returns-clause-are : goal.returns-clause-are
returns-clause-are c =
    let bytes : List ℕ = c.args.self.now.rest.now in
    let named = all_named (get_or bytes 0 0) c.loop-place.place c.loop-place.ids c.in-Some.names
    (omega (arith, c.loop-place.invariant.few, c.loop-place.invariant.room)) c.loop-place.auto.place-end c.loop-place-test.false c.in-Some.ensures.some in
    record { few = omega (arith, named.0, c.loop-place.invariant.few); identifiers = subst (All IsIdentifier) named.1 c.loop-place.invariant.named }
