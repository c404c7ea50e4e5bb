use Rattle.std.proofs.Common.{inl, refl}
use Rattle.manuscript_cli.specs.Listing.{list_text}
use Rattle.manuscript_cli.proofs.list.ContentsReport.write.Goals as goal

pub returns : goal.returns
returns g c =
    let text = list_text c.args.replica.now in
    inl (text, refl, c.gone_out.ensures _ _ text c.write_list.ensures)
