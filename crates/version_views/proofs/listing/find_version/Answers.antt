use Rattle.std.proofs.Common.{Bool, List, ap, arith, false, get_or, length, refl, reverse, sym, take, ℕ, ◌+◌, ◌<◌, ◌∙◌, ◌≡◌}
use Rattle.std.proofs.lemmas.List.{reverse-reverse}
use Rattle.std.specs.Prelude.{Option, Some, if◌then◌else◌}
use Rattle.fugue_ids.specs.declared.op.Op.{Op}
use Rattle.replica_core.specs.Index.{is_section_or_note}
use Rattle.replica_core.proofs.WalkLemmas.{passed_all, walk_begins, walk_comes, walk_ends, walk_goes_on}
use Rattle.version_views.specs.Versions.{is_version}
use Rattle.version_views.proofs.VersionLemmas.{last_is_newest, newest, newest_more, no_version, version_there}
use Rattle.version_views.proofs.listing.find_version.Goals as goal
use Rattle.version_views.proofs.listing.find_version.Goals.{then-is_named, else-is_named}

-- what was found is the newest of those before a place of the list
abbrev P : ℕ → List Op → List ℕ → List Op → Option ℕ → ℕ → Type 0
P r h name ops found i = found ≡ newest r h name (reverse (take i ops))

-- one that is no version is passed over
passed : (r : ℕ) (h : List Op) (name : List ℕ) (ops : List Op) (found : Option ℕ) (i : ℕ) (op : Op) → i < length ops → op ≡ get_or ops i op → is_version r h name op ≡ false
    → P r h name ops found i → P r h name ops found (i + 1)
passed r h name ops found i op below is none f =
    f ∙ sym (newest_more r h name ops i op below is ∙ ap (λ b. if b then Some i else newest r h name (reverse (take i ops))) none)

between : (r : ℕ) (h : List Op) (name : List ℕ) (ops : List Op) (found : Option ℕ) (i : ℕ) (op : Op) → i < length ops → op ≡ get_or ops i op → is_section_or_note op ≡ false
    → P r h name ops found i → P r h name ops found (i + 1)
between r h name ops found i op below is other = passed r h name ops found i op below is (no_version r h name op other)

pub walk-init : goal.walk-init
walk-init c =
    let h : List Op = c.args.replica.now.held.history in
    walk_begins _ h (reverse h) c.sections_and_notes-count-items.result.now refl c.sections_and_notes-count-items.ensures.positions refl

pub walk-preserved : goal.walk-preserved
walk-preserved c =
    let s = c.args.replica.now in
    let h : List Op = s.held.history in
    let ops : List Op = reverse h in
    let name : List ℕ = c.args.name.now in
    let positions : List ℕ = c.sections_and_notes-count-items.result.now in
    let k : ℕ = c.walk.count-index in
    let p : ℕ = get_or positions k 0 in
    let old = P s.number h name ops c.walk.found in
    let at = walk_comes old ops (between s.number h name ops c.walk.found) positions k c.walk-test.true c.walk.invariant in
    let more = newest_more s.number h name ops p at.op at.below at.is in
    let named = sym (version_there s.number h name p at.op at.there) ∙ sym c.is_named.ensures in
    let pick : Bool → Option ℕ = λ b. if b then Some p else newest s.number h name (reverse (take p ops)) in
    elim c.if-is_named.branch [
      | then-is_named w ↦
          walk_goes_on old (P s.number h name ops c.if-is_named.found) ops positions k p at
          (w.found-is ∙ sym (more ∙ ap pick (named ∙ w.if-is_named.true)))
      | else-is_named w ↦
          walk_goes_on old (P s.number h name ops c.if-is_named.found) ops positions k p at
          (w.found-is ∙ at.holds ∙ sym (more ∙ ap pick (named ∙ w.if-is_named.false)))
    ]

pub returns-clause-version : goal.returns-clause-version
returns-clause-version c =
    let r = c.args.replica.now.number in
    let h : List Op = c.args.replica.now.held.history in
    let ops : List Op = reverse h in
    let name : List ℕ = c.args.name.now in
    walk_ends (P r h name ops c.walk.found) ops (between r h name ops c.walk.found) c.sections_and_notes-count-items.result.now c.walk.count-index
    (omega (arith, c.walk-test.false)) c.walk.invariant
    ∙ ap (newest r h name) (passed_all ops (length ops) (omega arith) ∙ reverse-reverse h)
    ∙ sym (last_is_newest r h name h)
