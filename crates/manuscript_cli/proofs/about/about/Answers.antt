use Rattle.manuscript_cli.specs.Alone.{about_text}
use Rattle.manuscript_cli.proofs.AloneLemmas.{written_alone}
use Rattle.manuscript_cli.proofs.about.about.Goals as goal

pub returns : goal.returns
returns g c =
    let before = g.O.Out.seen c.args.output.now in
    let after = g.O.Out.seen c.write_pieces-written.new.out in
    written_alone _ _ _ _ (record {
      result = c.gone_out.result;
      did = c.gone_out.ensures before after about_text c.write_pieces-written.ensures;
      reported = c.ended.ensures;
    })
