use Rattle.std.proofs.Common.{inl, refl}
use Rattle.std.proofs.lemmas.Result.{err_from_is_err_and}
use Rattle.stretch_map.proofs.KeptLemmas.{kept_becomes}
use Rattle.stretch_map.proofs.PutLemmas.{begun_after, latest_grew, not_next_after}
use Rattle.stretch_map.specs.Contents.{layout}
use Rattle.stretch_map.proofs.put.put_after.Goals as goal

pub longer-requires : goal.longer-requires
longer-requires g c = c.requires.are.begun _ (inl c.requires.behind.latest)

pub returns-in-Some : goal.returns-in-Some
returns-in-Some g c = record {
  ok = latest_grew g.V.Follows.nth g.V.Follows.reaches (layout c.args.stretches.now) c.requires.are
      (c.args.key, c.args.run) c.requires.comes g.met.V.Follows.joins g.met.V.Follows.adds
      g.met.V.Follows.goes_on (c.args.first, c.args.stretch.now) c.requires.behind.latest c.in-Some.ensures.some.0 c.in-Some.longer c.in-Some.ensures.some.1
      c.replace.new.self.by_replica.entries c.replace.ensures;
  err = tt;
  sure = λ next. refl;
}

pub returns-in_err-insert : goal.returns-in_err-insert
returns-in_err-insert g c =
    let p = err_from_is_err_and c.from_residual.result c.from_residual.ensures.1 in
    rw p.1 (record {
      ok = tt;
      err = λ i. (c.args.stretches.now.latest.by_replica.entries, c.in_err-insert.ensures.err i);
      sure = λ next.
          absurd
          (not_next_after g.V.Follows.nth g.V.Follows.reaches (layout c.args.stretches.now) c.requires.are
          (c.args.key, c.args.run) c.requires.comes g.met.V.Follows.joins g.met.V.Follows.adds
          (c.args.first, c.args.stretch.now) c.requires.behind c.in_default.ensures.none next);
    })

pub returns : goal.returns
returns g c =
    let old = c.args.stretches.now in
    record {
      ok = begun_after g.V.Follows.nth g.V.Follows.reaches (layout old) c.requires.are (c.args.key, c.args.run) c.requires.comes
          (c.args.first, c.args.stretch.now) c.requires.behind
          c.replace-2.new.self.by_replica.entries c.insert.new.self.entries c.replace-2.ensures
          (kept_becomes old.kept c.insert.new.self c.args.first _ c.in_ok-insert.ensures.updates c.in_ok-insert.ensures.ordered);
      err = tt;
      sure = λ next. refl;
    }
