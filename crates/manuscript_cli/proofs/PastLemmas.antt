-- What was arranged when so many operations were accepted stays.
use Rattle.std.proofs.Common.{◌≡◌, ℕ, ◌≤◌, ◌<◌, ◌-◌, ◌++◌, ◌∙◌, List, ap, arith, drop, length, refl, sym}
use Rattle.std.proofs.lemmas.Bool.{le-ltb, lt-ltb}
use Rattle.std.proofs.lemmas.List.{length-append}
use Rattle.fugue_ids.specs.declared.op.Op.{Op}
use Rattle.origin_model.specs.taking.Taking.{held}
use Rattle.catalogue_notes.specs.Arranged.{arranged_text}
use Rattle.version_views.specs.Fronts.{GrowsHistory}
use Rattle.version_views.specs.Views.{first_ops}
use Rattle.version_views.proofs.FrontMakingLemmas.{files_grow, first_stays}
use Rattle.command_kinds.specs.Findings.{Does, Refuses}
use Rattle.command_kinds.specs.declared.refusal.Refusal.TheVariants.{NoMoment}
use Rattle.manuscript_cli.specs.Past.{PastIsArranged, PastStays, past_of}

pub past_within : (n : ℕ) (h : List Op) → n ≤ length h → past_of n h ≡ Does (arranged_text (first_ops n h))
past_within n h l = rw (le-ltb (length h) n l) refl

pub past_beyond : (n : ℕ) (h : List Op) → length h < n → past_of n h ≡ Refuses (NoMoment n)
past_beyond n h l = rw (lt-ltb (length h) n l) refl

pub past_is_arranged : PastIsArranged
past_is_arranged h =
    let none : length h - length h ≡ 0 = omega arith in
    past_within (length h) h (omega arith) ∙ ap (λ k. Does (arranged_text (drop k h))) none

pub past_stays : PastStays
past_stays n hold most ops more l =
    let old : List Op = (held hold most ops).history in
    let new : List Op = (held hold most (ops ++ more)).history in
    let g : GrowsHistory old new = files_grow hold most ops more in
    let longer : n ≤ length new = omega (arith, ap length g.grown, length-append g.newer old, l) in
    past_within n new longer ∙ ap (λ h. Does (arranged_text h)) (first_stays n old new g l) ∙ sym (past_within n old l)
