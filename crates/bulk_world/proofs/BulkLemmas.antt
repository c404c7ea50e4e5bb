-- From the calls that make a bulk manuscript to its world.
use Rattle.std.proofs.Common.{List, [], ap, arith, length, length-append, refl, subst, sym, take, drop, ◌++◌, ◌-◌, ◌∙◌, ◌∷◌, ◌≡◌, ◌≤◌, ℕ}
use Rattle.std.specs.Prelude.{All, None, codes}
use Rattle.fugue_ids.specs.declared.op.Op.{Op}
use Rattle.fugue_ids.specs.declared.op.Op.TheVariants.{Section}
use Rattle.origin_model.specs.operations.History.{accepted}
use Rattle.origin_model.specs.operations.Verdict.{verdict}
use Rattle.origin_model.specs.order.Order.{order}
use Rattle.origin_model.specs.taking.Taking.{Held, held_from, settle}
use Rattle.origin_model.specs.edits.Edits.{id_at}
use Rattle.origin_model.proofs.edits.MadeLemmas.{join_at_end}
use Rattle.origin_model.specs.edits.State.{State}
use Rattle.list_spec.specs.Worlds.{Event, World, after_events, world}
use Rattle.list_spec.proofs.WorldLemmas.{events_further}
use Rattle.bulk_world.specs.declared.making.TheConstants.{HOLD}
use Rattle.fugue_ids.specs.declared.limits.TheConstants.{MOST_OPERATIONS}
use Rattle.bulk_world.specs.Turns.{TurnsLead, all_turns, among, authors, bulk_world, delivers, events, hearing, made_over, two_begin, opening_turn, turns}
use Rattle.bulk_world.specs.Summary.{summary, summary_of}
use Rattle.bulk_world.proofs.TurnLemmas.{IsTurned, numbered, turned}
use Rattle.origin_model.proofs.SharedLemmas.{first_accepted}
use Rattle.bulk_world.proofs.HearingLemmas.{IsPooled, after_first, after_first_of, first_hears, made_pooled, second_hears}

-- the section of both
abbrev pub the_section : Op
the_section = Section (id_at 1 0) None None (codes "B")

-- both have the section, and nothing else was made
abbrev pub begun : World
begun = among (the_section ∷ []) (two_begin 1) (two_begin 2)

opens : world authors opening_turn ≡ begun
unfolding order verdict settle
opens = refl

-- the world after turns from a world on, and after what is heard of them
abbrev behind : World → (count seed : ℕ) → World
behind w count seed = let t = turns w count 1 seed in after_events (after_events w t) (hearing w t)

events_are : (seed count : ℕ) → events seed count ≡ opening_turn ++ (all_turns seed count ++ hearing (world authors opening_turn) (all_turns seed count))
events_are seed count = refl

bulk_is : (seed count : ℕ) → bulk_world seed count ≡ behind begun count seed
bulk_is seed count =
    let t = all_turns seed count in
    let h = hearing (world authors opening_turn) t in
    ap (world authors) (events_are seed count) ∙ events_further (record { replicas = authors; pool = [] }) opening_turn (t ++ h) ∙ events_further (world authors opening_turn) t h
    ∙ ap (λ w. behind w count seed) opens

-- what two authors come to in so many turns
module _ (seed count : ℕ) where
  abbrev pub all : List Event
  all = turns begun count 1 seed

  abbrev pub made : ℕ → List Op
  made n = made_over n begun all

  pub after : IsTurned (the_section ∷ []) (two_begin 1) (two_begin 2) all
  after = turned count 1 seed (the_section ∷ []) (two_begin 1).held (two_begin 2).held

  abbrev pub one : Held
  one = after.one_after

  abbrev pub two : Held
  two = after.two_after

  -- each heard what the other made
  abbrev pub one_hears : Held
  one_hears = held_from HOLD MOST_OPERATIONS one (made 2)

  abbrev pub two_hears : Held
  two_hears = held_from HOLD MOST_OPERATIONS two (made 1)

  -- what was made is in the pool
  in_pool : (n : ℕ) → All (IsPooled after.pool_after) (made n)
  in_pool n = subst (λ (w : World). All (IsPooled w.pool) (made n)) after.is (made_pooled n begun all)

  pub heard : bulk_world seed count ≡ among after.pool_after (numbered 1 one_hears) (numbered 2 two_hears)
  heard =
      bulk_is seed count ∙ ap (λ w. after_events w (hearing begun all)) after.is
      ∙ events_further (among after.pool_after (numbered 1 one) (numbered 2 two)) (delivers 2 (made 1)) (delivers 1 (made 2))
      ∙ ap (λ w. after_events w (delivers 1 (made 2))) (second_hears after.pool_after (made 1) one two (in_pool 1))
      ∙ first_hears after.pool_after (made 2) one two_hears (in_pool 2)

  -- the accepted operations are the section, and then what was made
  one_accepted : accepted one.history ≡ (the_section ∷ []) ++ made 1
  one_accepted = ap (λ (s : State). accepted s.held.history) after.one_is ∙ join_at_end (the_section ∷ []) (made 1)

  two_accepted : accepted two.history ≡ (the_section ∷ []) ++ made 2
  two_accepted = ap (λ (s : State). accepted s.held.history) after.two_is ∙ join_at_end (the_section ∷ []) (made 2)

  -- what the first author's replica lets the second hear, and the other way round
  one_tells : take (length (accepted one.history) - 1) (drop 1 (accepted one.history)) ≡ made 1
  one_tells = after_first the_section (made 1) (accepted one.history) one_accepted

  two_tells : take (length (accepted two.history) - 1) (drop 1 (accepted two_hears.history)) ≡ made 2
  two_tells =
      let more = first_accepted HOLD MOST_OPERATIONS two (made 1) in
      after_first_of the_section (made 2) more.0 (accepted two_hears.history) (length (accepted two.history)) (more.1 ∙ ap (λ l. l ++ more.0) two_accepted)
      (ap length two_accepted)

-- the section was accepted
abbrev pub IsBegun : State → Type 0
IsBegun s = 1 ≤ length (accepted s.held.history)

-- two authors after turns
record AreAfter (seed count : ℕ) (a b : State) : Type 0 where
  first : a ≡ numbered 1 (one seed count)
  second : b ≡ numbered 2 (two seed count)

are_after : (seed count : ℕ) (f s a b : State) → f ≡ two_begin 1 → s ≡ two_begin 2 → TurnsLead count 1 seed f s a b → AreAfter seed count a b
are_after seed count f s a b fe se leads =
    let t = after seed count in
    let from : TurnsLead count 1 seed (two_begin 1) (two_begin 2) a b =
    subst (λ o. TurnsLead count 1 seed o (two_begin 2) a b) fe (subst (λ o. TurnsLead count 1 seed f o a b) se leads) in
    let both : a ∷ b ∷ [] ≡ numbered 1 t.one_after ∷ numbered 2 t.two_after ∷ [] = sym (from (the_section ∷ [])) ∙ ap (λ (w : World). w.replicas) t.is in
    record { first = cc both; second = cc both }

-- both accepted the section
pub are_begun : (seed count : ℕ) (f s a b : State) → f ≡ two_begin 1 → s ≡ two_begin 2 → TurnsLead count 1 seed f s a b → IsBegun a × IsBegun b
are_begun seed count f s a b fe se leads =
    let k = are_after seed count f s a b fe se leads in (
      omega (arith, ap (λ (x : State). length (accepted x.held.history)) k.first, ap length (one_accepted seed count)),
      omega (arith, ap (λ (x : State). length (accepted x.held.history)) k.second, ap length (two_accepted seed count)),
    )

-- a replica that heard operations
abbrev pub heard_by : State → List Op → State
heard_by s ops = record s { held = held_from s.hold s.most s.held ops }

-- no accepted operation goes
pub none_goes : (s heard : State) (ops : List Op) → heard ≡ heard_by s ops → length (accepted s.held.history) ≤ length (accepted heard.held.history)
none_goes s heard ops e =
    let more = first_accepted s.hold s.most s.held ops in
    omega (arith, ap (λ (x : State). length (accepted x.held.history)) e, ap length more.1, length-append (accepted s.held.history) more.0)

-- the calls that make a bulk manuscript come to its world
pub summary_is : (seed count : ℕ) (f s a b a_heard b_heard : State) → f ≡ two_begin 1 → s ≡ two_begin 2 → TurnsLead count 1 seed f s a b
    → b_heard ≡ heard_by b (take (length (accepted a.held.history) - 1) (drop 1 (accepted a.held.history)))
    → a_heard ≡ heard_by a (take (length (accepted b.held.history) - 1) (drop 1 (accepted b_heard.held.history)))
    → summary_of a_heard b_heard ≡ summary (bulk_world seed count)
summary_is seed count f s a b a_heard b_heard fe se leads b_hears a_hears =
    let k = are_after seed count f s a b fe se leads in
    let two_is : b_heard ≡ numbered 2 (two_hears seed count) =
    b_hears ∙ (λ i. heard_by (k.second i) (take (length (accepted (k.first i).held.history) - 1) (drop 1 (accepted (k.first i).held.history))))
    ∙ ap (heard_by (numbered 2 (two seed count))) (one_tells seed count) in
    let one_is : a_heard ≡ numbered 1 (one_hears seed count) =
    a_hears ∙ (λ i. heard_by (k.first i) (take (length (accepted (k.second i).held.history) - 1) (drop 1 (accepted (two_is i).held.history))))
    ∙ ap (heard_by (numbered 1 (one seed count))) (two_tells seed count) in
    (λ i. summary_of (one_is i) (two_is i)) ∙ ap summary (sym (heard seed count))
