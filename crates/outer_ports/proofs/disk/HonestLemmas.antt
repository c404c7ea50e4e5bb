-- Each call keeps a disk honest.
use Rattle.std.proofs.Common.{◌≡◌, inl, inr, ℕ, length, sym, subst}
use Rattle.std.specs.Prelude.{Option, Some, None, IfSome, Ok, Err}
use Rattle.outer_ports.specs.disk.States.{DiskState, IsHonest}
use Rattle.outer_ports.specs.disk.Moments.{History, past_after_step, MayHaveWritten}
use Rattle.outer_ports.specs.disk.Laws.{ReadsStayHonest, SizesStayHonest, SyncsStayHonest, WritesStayHonest}
use Rattle.outer_ports.proofs.disk.ImagesLemmas.{honest_at_rest, honest_torn, honest_wrote}

abbrev IsHonestPast : Option History → Type 0
IsHonestPast past = IfSome past (λ h. IsHonest h.last)

same_honest : (old new : Option History) → new ≡ old → IsHonestPast old → IsHonestPast new
same_honest old new same honest = subst IsHonestPast (sym same) honest

after_honest : (f : DiskState → DiskState) (old new : Option History) → new ≡ past_after_step f old → IfSome old (λ h. IsHonest (f h.last)) → IsHonestPast new
after_honest f None new is honest = subst IsHonestPast (sym is) tt
after_honest f (Some h) new is honest = subst IsHonestPast (sym is) honest

-- where the state that stands has one property, and another that makes a third
each_some : (old : Option History) (P Q R : History → Type 0) → ((h : History) → P h → Q h → R h) → IfSome old P → IfSome old Q → IfSome old R
each_some None P Q R make p q = tt
each_some (Some h) P Q R make p q = make h p q

pub sizes_stay_honest : SizesStayHonest
sizes_stay_honest old new result s = same_honest old.past new.past s.looks.past

pub reads_stay_honest : ReadsStayHonest
reads_stay_honest old new result at buf r = same_honest old.past new.past r.looks.past

torn_honest : (at n : ℕ) (old new : Option History) → MayHaveWritten at n old new → IsHonestPast old → IsHonestPast new
torn_honest at n old new (inl same) honest = same_honest old new same honest
torn_honest at n old new (inr torn) honest =
    after_honest _ old new torn.1 (each_some old _ _ _ (λ h is same. honest_torn h.last at n torn.0 is same) honest torn.2)

pub writes_stay_honest : WritesStayHonest
writes_stay_honest old new (Ok x) at bytes inside w honest =
    after_honest _ old.past new.past w.wrote (each_some old.past _ _ _ (λ h is below. honest_wrote h.last at bytes is below) honest inside)
writes_stay_honest old new (Err e) at bytes inside w honest = torn_honest at (length bytes) old.past new.past w.torn honest

pub syncs_stay_honest : SyncsStayHonest
syncs_stay_honest old new (Ok x) s honest =
    after_honest _ old.past new.past s.settled (each_some old.past _ _ _ (λ h is same. honest_at_rest h.last.seen) honest honest)
syncs_stay_honest old new (Err e) s honest = same_honest old.past new.past s.past honest
