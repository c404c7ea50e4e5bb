use Rattle.std.proofs.Common.{List, ap, false, ◌<◌, arith, get_or, length, refl, reverse, subst, sym, ℕ, ◌+◌, ◌∙◌, ◌≡◌}
use Rattle.std.specs.Prelude.{map, option_map}
use Rattle.std.proofs.lemmas.List.{take_all}
use Rattle.fugue_ids.specs.declared.op.Op.{Op}
use Rattle.replica_core.specs.Index.{is_section_or_note}
use Rattle.replica_core.proofs.WalkLemmas.{Walks, read_there, walk_begins, walk_comes, walk_ends, walk_goes_on}
use Rattle.margin_notes.specs.Placing.{comment_placed, placed_in}
use Rattle.margin_notes.specs.declared.placing.CommentPlace.{CommentPlace}
use Rattle.margin_notes.proofs.EntryLemmas.{no_place}
use Rattle.margin_notes.proofs.KeptLemmas.{said}
use Rattle.margin_notes.proofs.WalkedLemmas.{IsPutDown, walk_between, walk_passes, walk_puts}
use Rattle.margin_notes.proofs.placing.comment_places.Goals as goal
use Rattle.margin_notes.proofs.placing.comment_places.Goals.{in-Some+in_ok-push, in_default}

module _ (h ops : List Op) (places : List CommentPlace) where
  abbrev P : ℕ → Type 0
  P i = IsPutDown (placed_in h) (comment_placed (reverse h)) ops places i

  between : (i : ℕ) (op : Op) → i < length ops → op ≡ get_or ops i op → is_section_or_note op ≡ false → P i → P (i + 1)
  between = walk_between (placed_in h) (comment_placed (reverse h)) ops (no_place h) places

pub walk-init : goal.walk-init
walk-init c =
    let h : List Op = c.args.replica.now.held.history in
    walk_begins (P h (reverse h) c.new-places.result.items) h (reverse h) c.sections_and_notes-at-items.result.now refl c.sections_and_notes-at-items.ensures.positions
    (ap (map (comment_placed (reverse h))) c.new-places.ensures.items)

pub walk-preserved : goal.walk-preserved
walk-preserved c =
    let h : List Op = c.args.replica.now.held.history in
    let ops : List Op = reverse h in
    let positions : List ℕ = c.sections_and_notes-at-items.result.now in
    let old : List CommentPlace = c.walk.places.items in
    let k : ℕ = c.walk.at-index in
    let p : ℕ = get_or positions k 0 in
    let f = placed_in h in
    let g = comment_placed (reverse h) in
    let at = walk_comes (P h ops old) ops (between h ops old) positions k c.walk-test.true c.walk.invariant in
    let read = read_there f ops p at.op (option_map g c.place_at.result) at.there c.place_at.ensures in
    elim c.match-place_at.branch [
      | in-Some+in_ok-push w ↦
          subst (λ z. Walks (P h ops z.items) ops positions (k + 1)) (sym w.places-is)
          (walk_goes_on (P h ops old) (P h ops w.push.new.self.items) ops positions k p at
          (walk_puts f g ops old w.push.new.self.items w.in-Some.place p at.op at.below at.is
          (sym (ap (option_map g) w.in-Some.is) ∙ sym read) w.in_ok-push.ensures.items at.holds))
      | in_default w ↦
          subst (λ z. Walks (P h ops z.items) ops positions (k + 1)) (sym w.places-is)
          (walk_goes_on (P h ops old) (P h ops old) ops positions k p at
          (walk_passes f g ops old p at.op at.below at.is (read ∙ ap (option_map g) w.in_default.is) at.holds))
    ]

pub returns-clause-places : goal.returns-clause-places
returns-clause-places c =
    let h : List Op = c.args.replica.now.held.history in
    let ops : List Op = reverse h in
    walk_ends (P h ops c.walk.places.items) ops (between h ops c.walk.places.items) c.sections_and_notes-at-items.result.now c.walk.at-index
    (omega (arith, c.walk-test.false)) c.walk.invariant
    ∙ ap (said (placed_in h)) (take_all (length ops) ops (omega arith))
