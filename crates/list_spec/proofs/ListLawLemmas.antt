-- The laws of worlds: one order for all replicas at all moments, edits that land where they were asked, and notings that show nothing.
use Rattle.std.proofs.Common.{List, [], ap, subst, sym, ◌≡◌}
use Rattle.std.specs.Prelude.{None, filter, not}
use Rattle.std.proofs.lemmas.List.Elements.{All-weaker}
use Rattle.fugue_ids.specs.declared.op.Op.{Op}
use Rattle.origin_model.specs.operations.Verdict.{Lawful}
use Rattle.origin_model.specs.order.Laws.{IsPartOf}
use Rattle.origin_model.specs.order.Printed.{is_hidden}
use Rattle.origin_model.proofs.SharedLemmas.{lawful_own, parts_keep_order}
use Rattle.origin_model.specs.edits.State.{State}
use Rattle.origin_model.specs.edits.Refusal.{refusal_message}
use Rattle.origin_model.specs.edits.Effect.{Lands}
use Rattle.list_spec.specs.StrongList.{EditsLand, IsOneList, IsView, NotingsShowNothing, StrongList}
use Rattle.list_spec.specs.Worlds.{World, after_events, replica_after_edit, world}
use Rattle.list_spec.proofs.EffectLemmas.{lands, note_quiet}
use Rattle.list_spec.proofs.WorldLemmas.{IsMember, events_further, events_keep, events_sound, world_sound}

-- a lawful part of a pool is a view of it
part_view : (pool h : List Op) → Lawful pool → Lawful h → IsPartOf h pool → IsView pool h
part_view pool h w v part =
    record {
      lawful = v;
      part = part;
      same_order = λ p. (parts_keep_order p h pool v w part).same_order;
      shows = λ p. ap (filter (λ x. not (is_hidden h x))) (parts_keep_order p h pool v w part).same_order;
    }

-- one order for all replicas at all moments
pub strong_list : StrongList
strong_list replicas earlier later new =
    let now : World = world replicas earlier in
    let then : World = after_events now later in
    let sound = world_sound replicas earlier new in
    let lawful : Lawful then.pool = (events_sound now later sound).lawful in
    subst (λ (w : World). IsOneList w.pool now.replicas) (sym (events_further (record { replicas = replicas; pool = [] }) earlier later))
    (record {
      lawful = lawful;
      own_ids = lawful_own then.pool lawful;
      views = All-weaker (IsMember now.pool) (λ (s : State). IsView then.pool s.held.history)
          (λ s m. part_view then.pool s.held.history lawful m.lawful (λ x k. events_keep now later x (m.history_part x k))) now.replicas sound.members;
    })

-- an edit that is not refused lands where it was asked
pub edits_land : EditsLand
edits_land replicas events command new =
    let w : World = world replicas events in
    All-weaker (IsMember w.pool) (λ (s : State). refusal_message s command ≡ None → Lands s (replica_after_edit command s) command)
    (λ s m e. lands command s m.lawful e) w.replicas (world_sound replicas events new).members

-- a noting shows nothing
pub notings_show_nothing : NotingsShowNothing
notings_show_nothing = note_quiet
