-- What an arrangement becomes as a note comes after it.
use Rattle.std.proofs.Common.{Bool, List, [], ap, arith, get_or, length, not, refl, reverse, subst, sym, ℕ, ◌&&◌, ◌+◌, ◌-◌, ◌++◌, ◌<◌, ◌∙◌, ◌∷◌, ◌≡◌, ◌≤◌}
use Rattle.std.specs.Prelude.{None, Option, Some, is_some, option_and_then, option_to_list, slice_get}
use Rattle.std.proofs.lemmas.Option.{slice_get_read}
use Rattle.std.proofs.lemmas.List.{get_or_push, length-append, length-reverse, reverse-append, reverse-reverse}
use Rattle.fugue_ids.specs.Identifiers.{Identifier}
use Rattle.fugue_ids.specs.Keyed.{IsReplaced}
use Rattle.fugue_ids.specs.Ops.{id_of}
use Rattle.fugue_ids.specs.declared.op.Op.{Op}
use Rattle.fugue_ids.specs.declared.op.Op.TheVariants.{Delete, Note, Section, Text}
use Rattle.origin_model.specs.declared.operations.node.Node.{Node}
use Rattle.origin_model.specs.operations.Verdict.{Lawful}
use Rattle.origin_model.specs.order.Printed.{is_withdrawn}
use Rattle.origin_model.specs.sides.Node.{IsNew, has_origin}
use Rattle.origin_model.proofs.SharedLemmas.{not_hidden_before}
use Rattle.section_list.specs.SectionList.{IsInOrder, Listing, with_element}
use Rattle.replica_core.proofs.WalkLemmas.{passed_all, passed_more, read_there}
use Rattle.catalogue_notes.specs.Arranging.{IsAfterNote}
use Rattle.catalogue_notes.specs.Claims.{Move, move_in}
use Rattle.catalogue_notes.specs.Lift.{is_section}
use Rattle.catalogue_notes.specs.Lifting.{IsLiftOf, IsLifting, lift_by, lift_move, node_at}
use Rattle.catalogue_notes.specs.Placing.{AreWinners}
use Rattle.catalogue_notes.specs.Readings.{candidate_of}
use Rattle.catalogue_notes.specs.Winning.{better_candidate, winning_candidate}
use Rattle.catalogue_notes.specs.declared.arrangement.Arrangement.{Arrangement}
use Rattle.catalogue_notes.specs.declared.lifting.Lift.{Lift}
use Rattle.catalogue_notes.specs.declared.reading.Candidate.{Candidate}
use Rattle.catalogue_notes.proofs.HolderLemmas.{joins, not_both}
use Rattle.catalogue_notes.proofs.LiftLemmas.{if_so, shape, some_inj}
use Rattle.catalogue_notes.proofs.LiftingLemmas.{Passed, lifting_all, lifting_more, lifting_same, new_at}
use Rattle.catalogue_notes.proofs.WinningLemmas.{candidate_taken}

-- the newest operation is the last of the list, and the older ones are those before it
pub newest_at : (ops older : List Op) (note op : Op) (i : ℕ) → reverse ops ≡ note ∷ older → i < length ops → length ops ≤ i + 1 → op ≡ get_or ops i op
    → (op ≡ note) × (Passed ops i ≡ older)
newest_at ops older note op i is below last at =
    let both : op ∷ Passed ops i ≡ note ∷ older = sym (passed_more ops i op below at) ∙ passed_all ops (i + 1) last ∙ is in
    (heads both, tails both)
  where
    heads : {x y : Op} {xs ys : List Op} → x ∷ xs ≡ y ∷ ys → x ≡ y
    heads e = cc

    tails : {x y : Op} {xs ys : List Op} → x ∷ xs ≡ y ∷ ys → xs ≡ ys
    tails e = cc

-- what is lifted with a candidate is the operation of the candidate
pub lifted_candidate : (known : Identifier → Bool) (ns : List Node) (op : Op) (l : Lift) (b : Candidate) → lift_by known ns op ≡ Some l → l.candidate ≡ Some b
    → id_of op ≡ Some b.id
lifted_candidate known ns (Section i left right t) l b e k = let none : None ≡ Some b = cc in absurd (not_both None b refl none)
lifted_candidate known ns (Text i s left right c) l b e k = absurd (not_both None l refl e)
lifted_candidate known ns (Delete i) l b e k = absurd (not_both None l refl e)
lifted_candidate known ns (Note i ns' c body) l b e k = by (move_in (Note i ns' c body)) refl e
  where
    by : (o : Option Move) → move_in (Note i ns' c body) ≡ o → lift_move known ns o ≡ Some l → id_of (Note i ns' c body) ≡ Some b.id
    by None is e = absurd (not_both None l refl e)
    by (Some m) is e =
        let lift : Lift = record { node = node_at m.id m.value.left m.value.right; candidate = Some (candidate_of m) } in
        let same : lift ≡ l = some_inj lift l (if_so (known m.section && (has_origin ns m.value.left && has_origin ns m.value.right)) (Some lift) l e) in
        let candidate : candidate_of m ≡ b = some_inj (candidate_of m) b (ap (λ (z : Lift). z.candidate) same ∙ k) in
        (shape (Note i ns' c body) m is).own ∙ ap (λ (z : Candidate). Some z.id) candidate

-- without a candidate the winners stay
pub winners_same : (older : List Op) (id : Identifier) (named : List Identifier) (code : ℕ) (body : List ℕ) (candidates : List Candidate) (winners : Identifier → Option Candidate)
    → AreWinners older candidates winners → AreWinners (Note id named code body ∷ older) candidates winners
winners_same older id named code body candidates winners are = are

-- with one they are those of one candidate more
pub winners_more : (older : List Op) (id : Identifier) (named : List Identifier) (code : ℕ) (body : List ℕ) (candidates : List Candidate) (b : Candidate)
    (old new : Identifier → Option Candidate)
    → Lawful (Note id named code body ∷ older) → id_of (Note id named code body) ≡ Some b.id → AreWinners older candidates old
    → IsReplaced old new b.section (Some (better_candidate b (old b.section))) → AreWinners (Note id named code body ∷ older) (candidates ++ b ∷ []) new
winners_more older id named code body candidates b old new w own are r s =
    let j = joins older (Note id named code body) w.0 in
    let stays : Identifier → Bool = λ x. not (is_withdrawn older x) in
    candidate_taken stays b (reverse candidates) old new are (ap not (not_hidden_before older b.id w.1 (ap is_some (j.fresh b.id own)))) r s
    ∙ ap (winning_candidate stays s) (sym (reverse-append candidates (b ∷ [])))

-- the operation at the end of the list is the newest one
pub record IsNewest (h ops older : List Op) (note op : Op) (i : ℕ) : Type 0 where
  pub below : i < length ops
  pub last : length ops ≤ i + 1
  pub list : reverse ops ≡ h
  pub lawful : Lawful (reverse ops)
  pub is : op ≡ note
  pub before : Passed ops i ≡ older

pub newest : (h ops older : List Op) (note op : Op) → ops ≡ reverse h → Lawful h → h ≡ note ∷ older → op ≡ get_or ops (length ops - 1) op
    → IsNewest h ops older note op (length ops - 1)
newest h ops older note op e w is there =
    let list : reverse ops ≡ h = ap reverse e ∙ reverse-reverse h in
    let count : length (reverse ops) ≡ length (note ∷ older) = ap length (list ∙ is) in
    let below : length ops - 1 < length ops = omega (arith, count, length-reverse ops) in
    let last : length ops ≤ length ops - 1 + 1 = omega arith in
    let at = newest_at ops older note op (length ops - 1) (list ∙ is) below last there in
    record { below = below; last = last; list = list; lawful = subst Lawful (sym list) w; is = at.0; before = at.1 }

-- it is there
last_of : (h older : List Op) (note : Op) → h ≡ note ∷ older → note ≡ get_or (reverse h) (length (reverse h) - 1) note
last_of h older note is =
    let longer : reverse h ≡ reverse older ++ note ∷ [] = ap reverse is ∙ reverse-append (note ∷ []) older in
    let at : length (reverse older) ≡ length (reverse h) - 1 = omega (arith, ap length longer, length-append (reverse older) (note ∷ [])) in
    sym (ap (λ l. get_or l (length (reverse h) - 1) note) longer ∙ get_or_push (reverse older) note note (length (reverse h) - 1) at)

-- the note after an arrangement, which stands at the end of the list
module _ (h : List Op) (a : Arrangement) (r : IsAfterNote h a) (w : Lawful h) where
  abbrev ops : List Op
  ops = reverse h

  abbrev op : Op
  op = Note r.id r.named r.code r.body

  abbrev i : ℕ
  i = length ops - 1

  there : op ≡ get_or ops (length ops - 1) op
  there = last_of h r.older op r.is

  pub at_end : IsNewest h ops r.older op op i
  at_end = newest h ops r.older op op refl w r.is there

  -- what is read at the end is read of the note
  pub noted_read : (count : ℕ) (o : Option Lift) → count ≡ length ops - 1 → o ≡ option_and_then (lift_by (is_section h) a.lifted.list.nodes) (slice_get ops count)
      → lift_by (is_section h) a.lifted.list.nodes op ≡ o
  noted_read count o last e =
      read_there (lift_by (is_section h) a.lifted.list.nodes) ops i op o (slice_get_read ops (length ops) i op refl at_end.below there)
      (e ∙ ap (λ k. option_and_then (lift_by (is_section h) a.lifted.list.nodes) (slice_get ops k)) last)

  abbrev list : Listing
  list = a.lifted.list

  abbrev candidates : List Candidate
  candidates = a.lifted.moves.items

  before : IsLifting (Passed ops i) list candidates
  before = subst (λ z. IsLifting z list candidates) (sym at_end.before) r.arranged.lifted.lifting

  tells : (s : Identifier) → is_section h s ≡ is_section (reverse ops) s
  tells s = ap (λ z. is_section z s) (sym at_end.list)

  whole : (more : Listing) (longer : List Candidate) → IsLifting (op ∷ Passed ops i) more longer → IsLiftOf h more longer
  whole more longer g =
      lifting_all h more longer w
      (subst (λ z. IsLifting z more longer) (sym (passed_more ops i op at_end.below there) ∙ passed_all ops (i + 1) at_end.last ∙ at_end.list) g)

  -- it adds nothing
  pub noted_same : lift_by (is_section h) list.nodes op ≡ None → IsLiftOf h list candidates
  noted_same q = whole list candidates (lifting_same ops i op (is_section h) list candidates at_end.lawful tells at_end.below there before q)

  -- or one element, which is new
  pub noted_new : (x : Lift) → lift_by (is_section h) list.nodes op ≡ Some x → IsNew list.nodes x.node
  noted_new x q = new_at ops i op (is_section h) list candidates x at_end.lawful tells at_end.below there before q

  pub noted_more : (more : Listing) (longer : List Candidate) (x : Lift) → lift_by (is_section h) list.nodes op ≡ Some x → more ≡ with_element x.node 45 list → IsInOrder more
      → longer ≡ candidates ++ option_to_list x.candidate → IsLiftOf h more longer
  noted_more more longer x q is o b = whole more longer (lifting_more ops i op (is_section h) list more candidates longer x at_end.lawful tells at_end.below there before q is o b)
