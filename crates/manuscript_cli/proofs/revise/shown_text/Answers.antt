use Rattle.std.proofs.Common.{[], ap, ◌≡◌}
use Rattle.fugue_ids.specs.Outs.{OutView}
use Rattle.manuscript_cli.proofs.revise.shown_text.Goals as goal

pub returns-in-Ok : goal.returns-in-Ok
returns-in-Ok c =
    let seen = ap (λ (v : OutView). v.written) c.new-text.ensures.seen in
    let empty : c.new-text.result.written ≡ [] = cc seen in
    let reported = rw empty at c.in-Ok.ensures.text.ok.written in
    cc reported
