use Rattle.std.proofs.Common.{[], List, subst, sym, ℕ, ◌∙◌}
use Rattle.relay_core.specs.Joins.{JoinsFrame}
use Rattle.relay_core.specs.Logs.{frames_in}
use Rattle.relay_core.proofs.TakingLemmas.{frame_there, refused_there}
use Rattle.relay_core.proofs.taking.take_message.Goals as goal

pub returns-in_ok-reply-in-Frame-clause-ok : goal.returns-in_ok-reply-in-Frame-clause-ok
returns-in_ok-reply-in-Frame-clause-ok g c =
    let old : List (List ℕ) = frames_in c.args.log.now in
    let new : List (List ℕ) = frames_in c.take_frame.new.log in
    frame_there c.args.limit c.args.cursor old new _ _ c.in_ok-reply-in-Frame.reply c.clear.ensures
    (subst (λ (bytes : List ℕ). JoinsFrame c.args.limit old bytes new [] c.in_ok-reply-in-Frame.reply)
    (c.as_slice-in-Frame.ensures ∙ c.in-Frame.ensures.bytes) c.in_ok-reply-in-Frame.ensures.ok)

pub returns-in-Bad-clause-ok : goal.returns-in-Bad-clause-ok
returns-in-Bad-clause-ok g c =
    refused_there _ _ _ _ _ c.refuse.result c.in-Bad.ensures.is (rw (sym c.as_slice.ensures) (c.is_closing.ensures.no c.if-is_closing.false)) c.refuse.ensures
