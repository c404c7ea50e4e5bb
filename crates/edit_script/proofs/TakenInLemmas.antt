-- What a script made, taken in where it began, gives the state in which it ended.
use Rattle.std.proofs.Common.{◌≡◌, ◌≢◌, ◌+◌, ◌<◌, ◌≤◌, inl, inr, ℕ, zero, suc, List, [], ◌∷◌, ◌++◌, length, Option, Some, None, refl, sym, ap, subst, ◌∙◌, arith}
use Rattle.std.specs.Prelude.{take, drop, slice_get}
use Rattle.std.proofs.Math.Nat.{min-le_left}
use Rattle.std.proofs.lemmas.Bool.{cases_lt}
use Rattle.std.proofs.lemmas.List.{append_cancel_left, length-map, length-take}
use Rattle.std.proofs.lemmas.Option.{slice_get_past}
use Rattle.fugue_ids.specs.Identifiers.{Identifier}
use Rattle.fugue_ids.specs.declared.op.Op.{Op}
use Rattle.fugue_ids.specs.declared.op.Op.TheVariants.{Delete}
use Rattle.origin_model.specs.edits.Edits.{Command, Put, Cut, Add, DropSection, ReadyInTurn, in_front, made, next_counter, typed_texts}
use Rattle.origin_model.specs.edits.Landing.{following}
use Rattle.origin_model.specs.operations.History.{accepted}
use Rattle.origin_model.specs.operations.Verdict.{Lawful}
use Rattle.origin_model.specs.order.Order.{order}
use Rattle.origin_model.specs.order.Printed.{shown}
use Rattle.origin_model.specs.taking.Taking.{Answer, Full, MeetsNoLimit, Held, IsSettled, TooMany, answers_from, held_from, kept_from}
use Rattle.origin_model.specs.taking.Closure.{WithinLimits}
use Rattle.std.proofs.lemmas.List.Elements.{All-weaker}
use Rattle.origin_model.specs.declared.operations.Place.TheVariants.{Catalogue as catalogue, Section as within}
use Rattle.origin_model.proofs.SharedLemmas.{held-append, kept-append, kept_suffice, stays_settled}
use Rattle.origin_model.proofs.edits.CutLemmas.{cut_takes, drop_takes}
use Rattle.origin_model.proofs.edits.EditIntakeLemmas.{edits_are_taken_in}
use Rattle.origin_model.proofs.edits.MadeLemmas.{cut_made, drop_made, put_counted, put_made, ready_lawful}
use Rattle.origin_model.proofs.edits.PutLemmas.{add_lands, put_lands}
use Rattle.cluster_text.specs.Clusters.{scalars}
use Rattle.origin_model.specs.edits.State.{State}
use Rattle.origin_model.specs.edits.Refusal.{held_count, in_range, made_by, refused_elements, refused_ops, section_shown, shown_count}
use Rattle.origin_model.specs.edits.Effect.{with_ops}
use Rattle.origin_model.proofs.edits.RefusalLemmas.{elements_fit, ops_fit, position_within, section_there}
use Rattle.edit_script.specs.Grammar.{lines}
use Rattle.edit_script.specs.Laws.{AreTakenIn, ScriptsAreTakenIn}
use Rattle.edit_script.specs.Scripts.{Does, Edits, LinesLead, by_scalars, shown_clusters, in_scalars, line_refusal, scalars_from}

-- after all that is shown there is no left origin
none_in_front : (xs : List Identifier) (at : ℕ) → length xs < at → in_front xs at ≡ None
none_in_front xs zero past = absurd (omega (arith, past))
none_in_front xs (suc at) past = slice_get_past xs at (omega (arith, past))

-- so a put past the end is one at the start
put_past : (r : ℕ) (h w : List Op) (k at : ℕ) (new : List ℕ) (s : Identifier) → slice_get (shown catalogue h) k ≡ Some s → length (shown (within s) h) < at
    → made r h w (Put k at new) ≡ made r h w (Put k 0 new)
put_past r h w k at new s shown_is past =
    put_made r h w k s at new shown_is
    ∙ ap (λ (l : Option Identifier). typed_texts r (next_counter r h w) s l (following (order (within s) h) l) new) (none_in_front (shown (within s) h) at past)
    ∙ sym (put_made r h w k s 0 new shown_is)

-- wherever a put stands, its operations come in turn
put_ready : (r : ℕ) (h w : List Op) (k at : ℕ) (new : List ℕ) (s : Identifier) → Lawful h → slice_get (shown catalogue h) k ≡ Some s → ReadyInTurn h (made r h w (Put k at new))
put_ready r h w k at new s lawful shown_is =
    elim (cases_lt (length (shown (within s) h)) at) [
      | inl past ↦ subst (ReadyInTurn h) (sym (put_past r h w k at new s shown_is past)) (put_lands r h w k 0 new s lawful shown_is (omega arith)).0.ready
      | inr fits ↦ (put_lands r h w k at new s lawful shown_is fits).0.ready
    ]

-- a cut deletes no more than it is asked to
cut_few : (r : ℕ) (h w : List Op) (k at n : ℕ) (s : Identifier) → slice_get (shown catalogue h) k ≡ Some s → length (made r h w (Cut k at n)) ≤ n
cut_few r h w k at n s shown_is =
    let targets : List Identifier = take n (drop at (shown (within s) h)) in
    let many = ap length (cut_made r h w k s at n shown_is) ∙ length-map targets (λ (x : Identifier). Delete x) ∙ length-take n (drop at (shown (within s) h)) in
    omega (arith, many, min-le_left n (length (drop at (shown (within s) h))))

-- the operations of an edit come in turn, and there is room for them
record Fit (s : State) (ops : List Op) : Type 0 where
  ready : ReadyInTurn s.held.history ops
  room : held_count s + length ops ≤ s.most

-- so it is of each edit of a line that is not refused
edit_fits : (s : State) (command : Command) → Lawful s.held.history → line_refusal s command ≡ None → Fit s (made_by s (by_scalars s command))
edit_fits s (Put k at new) lawful allowed =
    let found = section_there (section_shown s k) (λ (x : Identifier). in_range at (length (shown_clusters s x)) (refused_elements s (length new))) allowed in
    let others = position_within at (length (shown_clusters s found.0)) (refused_elements s (length new)) found.2 in
    let by = ap (λ (o : Option Identifier). elim o as (λ _. Command) [ None ↦ Put k at new | Some x ↦ in_scalars s x (Put k at new) ]) found.1 in
    subst (λ (c : Command). Fit s (made_by s c)) (sym by) (record {
      ready = put_ready s.number s.held.history s.held.waiting k (scalars (take at (shown_clusters s found.0))) new found.0 lawful found.1;
      room = omega (
        arith,
        elements_fit s (length new) others.1,
        put_counted s.number s.held.history s.held.waiting k found.0 (scalars (take at (shown_clusters s found.0))) new found.1,
      );
    })
edit_fits s (Cut k at n) lawful allowed =
    let found = section_there (section_shown s k) (λ (x : Identifier). in_range (at + n) (length (shown_clusters s x)) (refused_ops s (scalars_from s x at n))) allowed in
    let others = position_within (at + n) (length (shown_clusters s found.0)) (refused_ops s (scalars_from s found.0 at n)) found.2 in
    let by = ap (λ (o : Option Identifier). elim o as (λ _. Command) [ None ↦ Cut k at n | Some x ↦ in_scalars s x (Cut k at n) ]) found.1 in
    subst (λ (c : Command). Fit s (made_by s c)) (sym by) (record {
      ready = (cut_takes s.number s.held.history s.held.waiting k (scalars (take at (shown_clusters s found.0))) (scalars_from s found.0 at n) found.0 lawful found.1).0.ready;
      room = omega (
        arith,
        ops_fit s (scalars_from s found.0 at n) others.1,
        cut_few s.number s.held.history s.held.waiting k (scalars (take at (shown_clusters s found.0))) (scalars_from s found.0 at n) found.0 found.1,
      );
    })
edit_fits s (Add at title) lawful allowed =
    let others = position_within at (shown_count s catalogue) (refused_elements s 1) allowed in
    record { ready = (add_lands s.number s.held.history s.held.waiting at title lawful others.0).0.ready; room = elements_fit s 1 others.1 }
edit_fits s (DropSection k) lawful allowed =
    let found = section_there (section_shown s k) (λ (x : Identifier). refused_ops s 1) allowed in
    let one = ap length (drop_made s.number s.held.history s.held.waiting k found.0 found.1) in
    record {
      ready = (drop_takes s.number s.held.history s.held.waiting k found.0 lawful found.1).0.ready;
      room = omega (arith, one, ops_fit s 1 found.2);
    }

-- operations were made, and taken in where they were made they come to the same
record Made (old new : State) (ops : List Op) : Type 0 where
  hold_is : new.hold ≡ old.hold
  most_is : new.most ≡ old.most
  lawful : Lawful new.held.history
  settled : IsSettled new.held
  taken : AreTakenIn old new ops

made_none : (s : State) → Lawful s.held.history → IsSettled s.held → Made s s []
made_none s lawful settled = record { hold_is = refl; most_is = refl; lawful = lawful; settled = settled; taken = record { state = refl; all_kept = refl } }

-- the operations of an edit
made_edit : (old new : State) (command : Command) (ops : List Op) → Lawful old.held.history → IsSettled old.held → Edits old new command ops → Made old new ops
made_edit old new command ops lawful settled edits =
    let by = made_by old (by_scalars old command) in
    let fit = edit_fits old command lawful edits.allowed in
    let taken = edits_are_taken_in old.hold old.most old.number old.held.history old.held.waiting (by_scalars old command) settled fit.ready fit.room in
    let of : Made old (with_ops old by) by = record {
      hold_is = refl;
      most_is = refl;
      lawful = ready_lawful old.held.history by lawful fit.ready;
      settled = subst IsSettled taken.state (stays_settled old.hold old.most old.held by settled);
      taken = record { state = taken.state; all_kept = taken.all_kept };
    } in
    subst (λ (s : State). Made old s ops) (sym edits.gained.others) (subst (λ (l : List Op). Made old (with_ops old l) l) (sym edits.made) of)

-- the operations of a line
made_line : (old new : State) (line : List ℕ) (ops : List Op) → Lawful old.held.history → IsSettled old.held → Does old new line ops → Made old new ops
made_line old new line ops lawful settled (inl note) =
    subst (λ (s : State). Made old s ops) (sym note.1) (subst (λ (l : List Op). Made old old l) (sym note.2) (made_none old lawful settled))
made_line old new line ops lawful settled (inr edit) = made_edit old new edit.0 ops lawful settled edit.2

-- those that were made one after another
made-append : (old mid new : State) (first others : List Op) → Made old mid first → Made mid new others → Made old new (first ++ others)
made-append old mid new first others a b =
    let behind : (held_from old.hold old.most mid.held others ≡ new.held) × (kept_from old.hold old.most mid.held others ≡ others) = (
      (λ i. held_from (sym a.hold_is i) (sym a.most_is i) mid.held others) ∙ b.taken.state,
      (λ i. kept_from (sym a.hold_is i) (sym a.most_is i) mid.held others) ∙ b.taken.all_kept,
    ) in
    record {
      hold_is = b.hold_is ∙ a.hold_is;
      most_is = b.most_is ∙ a.most_is;
      lawful = b.lawful;
      settled = b.settled;
      taken = record {
        state = sym (held-append old.hold old.most old.held first others) ∙ ap (λ (h : Held). held_from old.hold old.most h others) a.taken.state ∙ behind.0;
        all_kept =
            sym (kept-append old.hold old.most old.held first others)
            ∙ (λ i. a.taken.all_kept i ++ kept_from old.hold old.most (a.taken.state i) others) ∙ ap (λ (l : List Op). first ++ l) behind.1;
      };
    }

-- the operations of lines
made_lines : (old new : State) (ls : List (List ℕ)) (ops : List Op) → Lawful old.held.history → IsSettled old.held → LinesLead old new ls ops → Made old new ops
made_lines old new [] ops lawful settled leads =
    subst (λ (s : State). Made old s ops) (sym leads.0) (subst (λ (l : List Op). Made old old l) (sym leads.1) (made_none old lawful settled))
made_lines old new (line ∷ ls) ops lawful settled leads =
    let first = made_line old leads.0 line leads.1 lawful settled leads.3 in
    let others = made_lines leads.0 new ls leads.2 first.lawful first.settled leads.4 in
    subst (Made old new) (sym leads.5) (made-append old leads.0 new leads.1 leads.2 first others)

-- what a script made is taken in
pub scripts_are_taken_in : ScriptsAreTakenIn
scripts_are_taken_in old new script n made sound settled runs joined =
    let same = append_cancel_left (accepted old.held.history) runs.ops made (sym runs.accepted_are ∙ joined) in
    subst (AreTakenIn old new) same (made_lines old new (lines script) runs.ops sound.lawful settled runs.leads).taken

-- what is kept whole finds its place
pub all_find_place : (old new : State) (made : List Op) → IsSettled old.held → AreTakenIn old new made → MeetsNoLimit old.hold old.most old.held made
all_find_place old new made settled taken =
    let stand = kept_suffice old.hold old.most old.held made settled in
    let within = subst (λ (l : List Op). WithinLimits (answers_from old.hold old.most old.held l)) taken.all_kept stand.within_limits in
    All-weaker (λ (a : Answer). (a ≢ Full) × (a ≢ TooMany)) (λ (a : Answer). a ≢ TooMany) (λ a limits. limits.1) (answers_from old.hold old.most old.held made) within
