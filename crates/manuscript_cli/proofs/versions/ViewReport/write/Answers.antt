use Rattle.std.proofs.Common.{ap, arith, inl, sym, ◌∙◌}
use Rattle.version_views.specs.Views.{view}
use Rattle.version_views.proofs.VersionLemmas.{version_is_within}
use Rattle.manuscript_cli.specs.NamedVersions.{version_text}
use Rattle.manuscript_cli.proofs.versions.ViewReport.write.Goals as goal

pub write_view-requires : goal.write_view-requires
write_view-requires g c =
    let replica = c.args.replica.now in
    let within = version_is_within replica.held.history replica.number c.args.self.now.name.now c.in-Some.count (sym c.find_version.ensures.version ∙ c.in-Some.is) in
    omega (arith, within)

pub returns-in-Ok : goal.returns-in-Ok
returns-in-Ok g c =
    let replica = c.args.replica.now in
    let text = view replica.held.history c.in-Some.count in
    inl (
      text,
      sym (ap (version_text c.args.self.now.name.now replica) (sym c.find_version.ensures.version ∙ c.in-Some.is)),
      c.gone_out.ensures _ _ text c.in-Ok.ensures.text,
    )
