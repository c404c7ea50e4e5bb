use Rattle.std.proofs.Common.{List, ap, false, ◌<◌, arith, get_or, length, refl, reverse, subst, sym, ℕ, ◌+◌, ◌∙◌, ◌≡◌}
use Rattle.std.specs.Prelude.{map, option_map}
use Rattle.std.proofs.lemmas.List.{take_all}
use Rattle.fugue_ids.specs.declared.op.Op.{Op}
use Rattle.replica_core.specs.Index.{is_section_or_note}
use Rattle.replica_core.proofs.WalkLemmas.{Walks, read_there, walk_begins, walk_comes, walk_ends, walk_goes_on}
use Rattle.margin_notes.specs.Listing.{line_of_entry, listed_line}
use Rattle.margin_notes.specs.declared.listing.Entry.{Entry}
use Rattle.margin_notes.proofs.EntryLemmas.{no_line}
use Rattle.margin_notes.proofs.KeptLemmas.{said}
use Rattle.margin_notes.proofs.WalkedLemmas.{IsPutDown, walk_between, walk_passes, walk_puts}
use Rattle.margin_notes.proofs.listing.entries_of.Goals as goal
use Rattle.margin_notes.proofs.listing.entries_of.Goals.{in-Some+in_ok-push, in_default}

module _ (h ops : List Op) (entries : List Entry) where
  abbrev P : ℕ → Type 0
  P i = IsPutDown (listed_line h) (line_of_entry (reverse h)) ops entries i

  between : (i : ℕ) (op : Op) → i < length ops → op ≡ get_or ops i op → is_section_or_note op ≡ false → P i → P (i + 1)
  between = walk_between (listed_line h) (line_of_entry (reverse h)) ops (no_line h) entries

pub walk-init : goal.walk-init
walk-init c =
    let h : List Op = c.args.replica.now.held.history in
    walk_begins (P h (reverse h) c.new-entries.result.items) h (reverse h) c.sections_and_notes-at-items.result.now refl c.sections_and_notes-at-items.ensures.positions
    (ap (map (line_of_entry (reverse h))) c.new-entries.ensures.items)

pub walk-preserved : goal.walk-preserved
walk-preserved c =
    let h : List Op = c.args.replica.now.held.history in
    let ops : List Op = reverse h in
    let positions : List ℕ = c.sections_and_notes-at-items.result.now in
    let old : List Entry = c.walk.entries.items in
    let k : ℕ = c.walk.at-index in
    let p : ℕ = get_or positions k 0 in
    let f = listed_line h in
    let g = line_of_entry (reverse h) in
    let at = walk_comes (P h ops old) ops (between h ops old) positions k c.walk-test.true c.walk.invariant in
    let read = read_there f ops p at.op (option_map g c.entry_at.result) at.there c.entry_at.ensures in
    elim c.match-entry_at.branch [
      | in-Some+in_ok-push w ↦
          subst (λ z. Walks (P h ops z.items) ops positions (k + 1)) (sym w.entries-is)
          (walk_goes_on (P h ops old) (P h ops w.push.new.self.items) ops positions k p at
          (walk_puts f g ops old w.push.new.self.items w.in-Some.entry p at.op at.below at.is
          (sym (ap (option_map g) w.in-Some.is) ∙ sym read) w.in_ok-push.ensures.items at.holds))
      | in_default w ↦
          subst (λ z. Walks (P h ops z.items) ops positions (k + 1)) (sym w.entries-is)
          (walk_goes_on (P h ops old) (P h ops old) ops positions k p at
          (walk_passes f g ops old p at.op at.below at.is (read ∙ ap (option_map g) w.in_default.is) at.holds))
    ]

pub returns-clause-entries : goal.returns-clause-entries
returns-clause-entries c =
    let h : List Op = c.args.replica.now.held.history in
    let ops : List Op = reverse h in
    walk_ends (P h ops c.walk.entries.items) ops (between h ops c.walk.entries.items) c.sections_and_notes-at-items.result.now c.walk.at-index
    (omega (arith, c.walk-test.false)) c.walk.invariant
    ∙ ap (said (listed_line h)) (take_all (length ops) ops (omega arith))
