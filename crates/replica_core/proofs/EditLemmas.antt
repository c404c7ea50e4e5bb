-- The operations of an edit that is not refused can be accepted in turn, and so can a note.
use Rattle.std.proofs.Common.{◌≡◌, ◌∷◌, List, [], ℕ}
use Rattle.std.specs.Prelude.{None}
use Rattle.fugue_ids.specs.Identifiers.{Identifier}
use Rattle.fugue_ids.specs.declared.op.Op.{Op}
use Rattle.origin_model.specs.taking.Taking.{IsSettled}
use Rattle.origin_model.specs.edits.Edits.{Command}
use Rattle.origin_model.specs.edits.Noting.{AreHeld, note_by, note_refusal}
use Rattle.origin_model.specs.edits.Refusal.{made_by, refusal_message}
use Rattle.origin_model.specs.edits.State.{State, IsSound}
use Rattle.origin_model.proofs.edits.EditIntakeLemmas.{Comes, made_comes}
use Rattle.origin_model.proofs.edits.NotedLemmas.{note_fits, noted_comes}
use Rattle.origin_model.proofs.edits.RefusalLemmas.{made_fits, made_ready}
use Rattle.replica_core.specs.Edits.{CanJoin, ComeInTurn}

come_in_turn : (ops h w : List Op) → Comes w h ops → ComeInTurn w h ops
come_in_turn [] h w c = tt
come_in_turn (op ∷ ops) h w c = (c.0, c.1, c.2, come_in_turn ops (op ∷ h) w c.3)

pub made_can_join : (s : State) (command : Command) → IsSound s → IsSettled s.held → refusal_message s command ≡ None → CanJoin s (made_by s command)
made_can_join s command sound settled e =
    record {
      settled = settled;
      in_turn = come_in_turn (made_by s command) s.held.history s.held.waiting
          (made_comes s.number s.held.history s.held.waiting command settled (made_ready command s sound.lawful e));
      room = made_fits command s e;
    }

pub note_can_join : (s : State) (named : List Identifier) (code : ℕ) (body : List ℕ) → IsSound s → IsSettled s.held → AreHeld s.held.history named → note_refusal s ≡ None
    → CanJoin s (note_by s named code body ∷ [])
note_can_join s named code body sound settled held e =
    record {
      settled = settled;
      in_turn = come_in_turn (note_by s named code body ∷ []) s.held.history s.held.waiting
          (noted_comes s.number s.held.history s.held.waiting named code body sound.lawful settled held);
      room = note_fits s e;
    }
