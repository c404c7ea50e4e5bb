use Rattle.std.proofs.Common.{List, ap, arith, drop, false, get_or, length, refl, reverse, subst, ℕ, ◌+◌, ◌<◌, ◌≡◌}
use Rattle.std.proofs.lemmas.List.{drop_all}
use Rattle.std.proofs.lemmas.Result.{err_from_is_err_and}
use Rattle.fugue_ids.specs.Outs.{OutView}
use Rattle.fugue_ids.specs.declared.op.Op.{Op}
use Rattle.section_catalogue.proofs.PrintingLemmas.{IsUnderWay, under_way_ends, under_way_grows, under_way_start, under_way_stops}
use Rattle.replica_core.specs.Index.{is_section_or_note}
use Rattle.replica_core.proofs.WalkLemmas.{walk_begins, walk_comes, walk_ends, walk_goes_on}
use Rattle.version_views.specs.Views.{versions_text}
use Rattle.version_views.proofs.LineLemmas.{line_next, lines_from, no_line, text_lines}
use Rattle.version_views.proofs.printing.put_versions.Goals as goal

-- a front of the lines was gathered, and those from a place of the list on are to come
abbrev P : ℕ → (h : List Op) → (u v : OutView) → (p q : List ℕ) → ℕ → Type 0
P r h u v p q i = IsUnderWay u v p q (versions_text h r) (lines_from r h (drop i (reverse h)) i)

between : (r : ℕ) (h : List Op) (u v : OutView) (p q : List ℕ) (i : ℕ) (op : Op) → i < length (reverse h) → op ≡ get_or (reverse h) i op → is_section_or_note op ≡ false
    → P r h u v p q i → P r h u v p q (i + 1)
between r h u v p q i op below is other = subst (IsUnderWay u v p q (versions_text h r)) (no_line r h (reverse h) i op below is other)

pub walk-init : goal.walk-init
walk-init g c =
    let r = c.args.replica.now.number in
    let h : List Op = c.args.replica.now.held.history in
    let u = g.O.Out.seen c.args.output.now in
    walk_begins (P r h u u c.args.gather.now c.args.gather.now) h (reverse h) c.sections_and_notes-count-items.result.now refl c.sections_and_notes-count-items.ensures.positions
    (subst (IsUnderWay u u c.args.gather.now c.args.gather.now (versions_text h r)) (text_lines h r) (under_way_start u c.args.gather.now (versions_text h r)))

pub walk-preserved : goal.walk-preserved
walk-preserved g c =
    let s = c.args.replica.now in
    let h : List Op = s.held.history in
    let positions : List ℕ = c.sections_and_notes-count-items.result.now in
    let k : ℕ = c.walk.count-index in
    let u = g.O.Out.seen c.args.output.now in
    let at = walk_comes _ (reverse h) (between s.number h u (g.O.Out.seen c.walk.output) c.args.gather.now c.walk.gather) positions k c.walk-test.true c.walk.invariant in
    walk_goes_on _ (P s.number h u (g.O.Out.seen c.put_version.new.output) c.args.gather.now c.put_version.new.gather) (reverse h) positions k (get_or positions k 0) at
    (under_way_grows _ _ _ _ _ _ _ _ _ _ at.holds (line_next s.number h (get_or positions k 0) at.op at.below at.is at.there) c.in_ok-put_version.ensures)

pub returns-in_err-put_version-clause-text : goal.returns-in_err-put_version-clause-text
returns-in_err-put_version-clause-text g c =
    let s = c.args.replica.now in
    let h : List Op = s.held.history in
    let positions : List ℕ = c.sections_and_notes-count-items.result.now in
    let k : ℕ = c.walk.count-index in
    let at = walk_comes _ (reverse h) (between s.number h (g.O.Out.seen c.args.output.now) (g.O.Out.seen c.walk.output) c.args.gather.now c.walk.gather) positions k
    c.walk-test.true c.walk.invariant in
    let p = err_from_is_err_and c.from_residual.result c.from_residual.ensures.1 in
    rw p.1 (under_way_stops _ _ _ _ _ _ _ _ _ _ at.holds (line_next s.number h (get_or positions k 0) at.op at.below at.is at.there) c.in_err-put_version.ensures)

pub returns-clause-text : goal.returns-clause-text
returns-clause-text g c =
    let s = c.args.replica.now in
    let h : List Op = s.held.history in
    let ops : List Op = reverse h in
    under_way_ends _ _ _ _ _ _
    (walk_ends _ ops (between s.number h (g.O.Out.seen c.args.output.now) (g.O.Out.seen c.walk.output) c.args.gather.now c.walk.gather)
    c.sections_and_notes-count-items.result.now c.walk.count-index (omega (arith, c.walk-test.false)) c.walk.invariant)
    (ap (λ l. lines_from s.number h l (length ops)) (drop_all (length ops) ops (omega arith)))
