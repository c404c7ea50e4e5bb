use Rattle.std.proofs.Common.{refl, subst, ◌≡◌}
use Rattle.std.specs.Prelude.{OnErr, OnOk}
use Rattle.stretch_map.proofs.PutLemmas.{kept_grew, not_next_before}
use Rattle.stretch_map.specs.Contents.{Layout, layout}
use Rattle.stretch_map.specs.Stretches.{Adds}
use Rattle.stretch_map.proofs.put.put_before.Goals as goal

pub returns-then-extend_kept : goal.returns-then-extend_kept
returns-then-extend_kept g c = record {
  ok = kept_grew g.V.Follows.nth g.V.Follows.reaches (layout c.args.stretches.now) c.requires.are
      (c.args.key, c.args.run) c.requires.comes g.met.V.Follows.joins g.met.V.Follows.adds
      g.met.V.Follows.goes_on c.extend_kept.new.kept.entries (c.if-extend_kept.ensures.on refl);
  err = tt;
  sure = λ next. refl;
}

pub returns : goal.returns
returns g c =
    let nth = g.V.Follows.nth in
    let reaches = g.V.Follows.reaches in
    let old = c.args.stretches.now in
    let new = layout c.begin.new.stretches in
    let same : (old.latest.by_replica.entries, c.extend_kept.new.kept.entries) ≡ layout old = λ i. (old.latest.by_replica.entries, c.if-extend_kept.ensures.off refl i) in
    record {
      ok = subst (λ (l : Layout g.row.V.Denot). OnOk c.begin.result (Adds nth reaches l new (c.args.key, c.args.run))) same c.begin.ensures.ok;
      err = subst (λ (l : Layout g.row.V.Denot). OnErr c.begin.result (new ≡ l)) same c.begin.ensures.err;
      sure = λ next.
          absurd
          (not_next_before nth reaches (layout old) c.requires.are (c.args.key, c.args.run) c.requires.comes g.met.V.Follows.joins g.met.V.Follows.adds c.requires.before
          (c.if-extend_kept.ensures.goes_not refl) next);
    }
