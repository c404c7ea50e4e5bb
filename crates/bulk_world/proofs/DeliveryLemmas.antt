-- A call that takes in an operation is a delivery of the world, or for lack of memory none, or one whose settling is not over.
use Rattle.std.proofs.Common.{Bool, ap, inl, inr, refl, sym, ◌∙◌, ◌≡◌, ◌≢◌, ◌⊎◌}
use Rattle.std.specs.Prelude.{Err, Ok, Result}
use Rattle.fugue_ids.specs.declared.op.Op.{Op}
use Rattle.origin_model.specs.declared.taking.Tally.{Tally}
use Rattle.origin_model.specs.edits.State.{State}
use Rattle.origin_model.specs.taking.Taking.{IsSettled, TooMany as IsOneTooMany, answer, settle, held_after}
use Rattle.origin_model.proofs.SharedLemmas.{settle-settled}
use Rattle.list_spec.specs.Worlds.{replica_after_delivery}
use Rattle.replica_core.specs.Answering.{StandsPartly}
use Rattle.replica_core.specs.declared.keeping.FeedFault.{FeedFault}
use Rattle.replica_core.specs.declared.keeping.FeedFault.TheVariants.{NoMemory, TooMany}
use Rattle.bulk_world.specs.Deliveries.{CallsAreDeliveries, IsFeedCall, settled_replica}

-- where there are too many, nothing changes
nothing_delivered : (op : Op) (s : State) → IsSettled s.held → answer s.hold s.most s.held op ≡ IsOneTooMany → replica_after_delivery op s ≡ s
nothing_delivered op s z e = ap (λ h. record s { held = h }) (ap (λ a. settle (held_after a s.held op)) e ∙ settle-settled s.held z)

-- what is left of settling leads to the delivery
still_settles : (op : Op) (old new : State) (before after : Tally) → new ≡ record old { held = new.held }
    → ((new ≡ old) × (after ≡ before)) ⊎ StandsPartly old.hold old.most old.held new.held op before after → (new ≡ old) ⊎ (settled_replica new ≡ replica_after_delivery op old)
still_settles op old new before after others (inl same) = inl same.0
still_settles op old new before after others (inr partly) = inr (ap settled_replica others ∙ ap (λ h. record old { held = h }) partly.goes_on)

pub calls_are_deliveries : CallsAreDeliveries
calls_are_deliveries op old new before after (Ok kept) z call = record { is = λ enough. call.held; partly = λ e. cc e }
calls_are_deliveries op old new before after (Err (TooMany most)) z call =
    let full : answer old.hold old.most old.held op ≡ IsOneTooMany = call.too_many.0 (ap (λ n. Err (TooMany n)) call.err.0) in
    record { is = λ enough. call.err.1 ∙ sym (nothing_delivered op old z full); partly = λ e. cc e }
calls_are_deliveries op old new before after (Err NoMemory) z call =
    record { is = λ enough. absurd (enough refl); partly = λ e. still_settles op old new before after call.err.1 call.err.2 }

-- the same of a copy of the operation, where memory is not wanting
pub copy_delivered : (op copy : Op) (old new : State) (before after : Tally) (result : Result Bool FeedFault) → result ≢ Err NoMemory → copy ≡ op → IsSettled old.held
    → IsFeedCall copy old new before after result
    → new ≡ replica_after_delivery op old
copy_delivered op copy old new before after result enough same z call =
    (calls_are_deliveries copy old new before after result z call).is enough ∙ ap (λ o. replica_after_delivery o old) same
