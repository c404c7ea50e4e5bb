use Rattle.std.proofs.Common.{List, [], ap, append-nil, arith, length, subst, sym, true, ℕ, ◌+◌, ◌<◌, ◌^◌, ◌∙◌, ◌≡◌, ◌≤◌}
use Rattle.std.specs.Prelude.{OnOk, Option}
use Rattle.fugue_ids.specs.Listed.{index_of}
use Rattle.fugue_ids.specs.Identifiers.{Identifier}
use Rattle.fugue_ids.specs.declared.key.Gap.{Gap}
use Rattle.fugue_ids.specs.declared.key.Gap.TheVariants.{After, Alone, Before}
use Rattle.fugue_ids.specs.declared.limits.TheConstants.{MOST_OPERATIONS}
use Rattle.origin_model.specs.sides.KeyedGap.{gap_index}
use Rattle.run_store.specs.Cells.{cell_of, cell_ids}
use Rattle.run_store.specs.Growth.{AreFresh, IsHead, MayComeTo, inserted_at}
use Rattle.run_store.specs.Heads.{typed_cells}
use Rattle.run_store.specs.NewCells.{cell_before, continues, is_continued, new_cells, new_head}
use Rattle.run_store.specs.Runs.{cells_in}
use Rattle.run_store.specs.Stored.{Stored}
use Rattle.run_store.specs.declared.cell.Cell.{Cell}
use Rattle.run_store.specs.declared.cell.Head.{Head}
use Rattle.run_store.proofs.BeginLemmas.{no-runs}
use Rattle.run_store.proofs.CellLemmas.{cell-get}
use Rattle.run_store.proofs.EitherLemmas.{on-ok}
use Rattle.run_store.proofs.store.RunStore.insert_run.Goals as goal

-- the cells with new ones, by the cells and the gap as the caller sees them
joined : (cs now : List Cell) (i : Gap → List Identifier → ℕ) (g gap : Gap) (id : Identifier) (left right : Option Identifier) (text : List ℕ) (h : Head)
    → cs ≡ now → gap ≡ g → h ≡ new_head cs id left right
    → inserted_at (i g (cell_ids cs)) (typed_cells h text) cs ≡ inserted_at (i gap (cell_ids now)) (new_cells now id left right text) now
joined cs now i g gap id left right text h e f is =
    ap (λ k. inserted_at (i g (cell_ids cs)) (typed_cells k text) cs) is ∙ (λ j. inserted_at (i (sym f j) (cell_ids (e j))) (new_cells (e j) id left right text) (e j))

-- the new cells may come to the cells
comes : (cs now : List Cell) → cs ≡ now → (id : Identifier) (left right : Option Identifier) (h : Head) (n : ℕ) → h ≡ new_head cs id left right → IsHead cs h → 0 < n
    → AreFresh now id n
    → length now + n ≤ MOST_OPERATIONS → id.counter + n ≤ 2 ^ 32 → MayComeTo cs h n
comes cs now e id left right h n is head some fresh room counters =
    let own : h.id ≡ id = ap (λ (k : Head). k.id) is in
    record {
      head = head;
      some = some;
      fresh = subst (λ x. AreFresh cs x n) (sym own) (subst (λ xs. AreFresh xs id n) (sym e) fresh);
      room = omega (arith, room, ap length e);
      counters = omega (arith, counters, ap (λ (x : Identifier). x.counter) own);
    }

pub begin-requires-clause-new : goal.begin-requires-clause-new
begin-requires-clause-new c =
    comes (cells_in c.self.inside.runs) c.args.self.now.cells (ap (λ (s : Stored). s.cells) c.self.view_is) c.args.id c.args.left c.args.right c.new_head-head.result
    (length c.args.text.now)
    c.new_head-head.ensures.is c.new_head-head.ensures.head c.requires.some c.requires.fresh c.requires.room c.requires.counters

pub insert_before-requires-clause-new : goal.insert_before-requires-clause-new
insert_before-requires-clause-new c =
    comes (cells_in c.self.inside.runs) c.args.self.now.cells (ap (λ (s : Stored). s.cells) c.self.view_is) c.args.id c.args.left c.args.right c.new_head-head.result
    (length c.args.text.now)
    c.new_head-head.ensures.is c.new_head-head.ensures.head c.requires.some c.requires.fresh c.requires.room c.requires.counters

pub insert_behind-requires-clause-new : goal.insert_behind-requires-clause-new
insert_behind-requires-clause-new c =
    comes (cells_in c.self.inside.runs) c.args.self.now.cells (ap (λ (s : Stored). s.cells) c.self.view_is) c.args.id c.args.left c.args.right c.new_head-head.result
    (length c.args.text.now)
    c.new_head-head.ensures.is c.new_head-head.ensures.head c.requires.some c.requires.fresh c.requires.room c.requires.counters

pub begin-requires-clause-held : goal.begin-requires-clause-held
begin-requires-clause-held c =
    no-runs c.self.inside.runs c.sound.ensures (ap (λ (s : Stored). s.cells) c.self.view_is ∙ c.requires.alone.0 c.in-Alone.is)

pub returns-in-Alone-clause-ok : goal.returns-in-Alone-clause-ok
returns-in-Alone-clause-ok c =
    let C = cells_in c.self.inside.runs in
    let e = ap (λ (s : Stored). s.cells) c.self.view_is in
    let none : C ≡ [] = e ∙ c.requires.alone.0 c.in-Alone.is in
    let h = c.new_head-head.result in
    subst (λ cs. OnOk c.begin.result (cells_in c.begin.new.self ≡ cs))
    (sym (append-nil (typed_cells h c.args.text.now)) ∙ ap (inserted_at 0 (typed_cells h c.args.text.now)) (sym none)
    ∙ joined C c.args.self.now.cells gap_index Alone c.args.gap c.args.id c.args.left c.args.right c.args.text.now h e c.in-Alone.is c.new_head-head.ensures.is)
    c.begin.ensures.ok

pub returns-in-Before-clause-ok : goal.returns-in-Before-clause-ok
returns-in-Before-clause-ok c =
    let C = cells_in c.self.inside.runs in
    let e = ap (λ (s : Stored). s.cells) c.self.view_is in
    let h = c.new_head-head.result in
    subst (λ cs. OnOk c.insert_before.result (cells_in c.insert_before.new.self ≡ cs))
    (joined C c.args.self.now.cells gap_index (Before c.in-Before.at) c.args.gap c.args.id c.args.left c.args.right c.args.text.now h e c.in-Before.is c.new_head-head.ensures.is)
    c.insert_before.ensures.makes.ok

pub returns-in-After-clause-ok : goal.returns-in-After-clause-ok
returns-in-After-clause-ok c =
    let C = cells_in c.self.inside.runs in
    let e = ap (λ (s : Stored). s.cells) c.self.view_is in
    let h = c.new_head-head.result in
    subst (λ cs. OnOk c.insert_behind.result (cells_in c.insert_behind.new.self ≡ cs))
    (joined C c.args.self.now.cells gap_index (After c.in-After.at) c.args.gap c.args.id c.args.left c.args.right c.args.text.now h e c.in-After.is c.new_head-head.ensures.is)
    c.insert_behind.ensures.makes.ok

-- whether a run is continued, by the same
told : (cs now : List Cell) (g gap : Gap) (h : Head) (id : Identifier) (left right : Option Identifier) → cs ≡ now → gap ≡ g → h ≡ new_head cs id left right
    → continues now gap id left right ≡ is_continued (cell_before cs (gap_index g (cell_ids cs))) h.id h.left h.right
told cs now g gap h id left right e f is =
    (λ j. is_continued (cell_before (sym e j) (gap_index (f j) (cell_ids (sym e j)))) id left right)
    ∙ (λ j. is_continued (cell_before cs (gap_index g (cell_ids cs))) ((sym is j).id) ((sym is j).left) ((sym is j).right))

pub returns-in-Before-clause-continued : goal.returns-in-Before-clause-continued
returns-in-Before-clause-continued c =
    let C = cells_in c.self.inside.runs in
    let e = ap (λ (s : Stored). s.cells) c.self.view_is in
    let h = c.new_head-head.result in
    let t = told C c.args.self.now.cells (Before c.in-Before.at) c.args.gap h c.args.id c.args.left c.args.right e c.in-Before.is c.new_head-head.ensures.is in
    on-ok c.insert_before.result
    (is_continued (cell_before C (index_of (cell_ids C) c.in-Before.at)) h.id h.left h.right ≡ true → length c.insert_before.new.self.rope ≡ length c.self.inside.runs.rope)
    (continues c.args.self.now.cells c.args.gap c.args.id c.args.left c.args.right ≡ true → length c.insert_before.new.self.rope ≡ c.args.self.now.runs)
    (λ f so. f (sym t ∙ so) ∙ ap (λ (s : Stored). s.runs) c.self.view_is) c.insert_before.ensures.continued

pub returns-in-After-clause-continued : goal.returns-in-After-clause-continued
returns-in-After-clause-continued c =
    let C = cells_in c.self.inside.runs in
    let e = ap (λ (s : Stored). s.cells) c.self.view_is in
    let h = c.new_head-head.result in
    let t = told C c.args.self.now.cells (After c.in-After.at) c.args.gap h c.args.id c.args.left c.args.right e c.in-After.is c.new_head-head.ensures.is in
    on-ok c.insert_behind.result
    (is_continued (cell_of C c.in-After.at) h.id h.left h.right ≡ true → length c.insert_behind.new.self.rope ≡ length c.self.inside.runs.rope)
    (continues c.args.self.now.cells c.args.gap c.args.id c.args.left c.args.right ≡ true → length c.insert_behind.new.self.rope ≡ c.args.self.now.runs)
    (λ f so. f (ap (λ o. is_continued o h.id h.left h.right) (cell-get c.in-After.at C) ∙ sym t ∙ so) ∙ ap (λ (s : Stored). s.runs) c.self.view_is)
    c.insert_behind.ensures.continued
