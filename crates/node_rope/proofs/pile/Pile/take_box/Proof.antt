-- `take_box` makes the last box again.
use Rattle.node_rope.proofs.Words.{◌≡◌, ℕ, ◌+◌, ◌-◌, List, [], ◌∷◌, ◌++◌, length, refl, sym, ap, ◌∙◌, subst, arith, a_type, dcons, dnil, inst_fn, Val, vptr, SProp, ent, emp, id⊢}
use Rattle.node_rope.proofs.Words.{Fml, ftrue, flft, WpFn, ‵, raw, ◌⊛◌, some, later, at_ret, ◌$◌, ◌∵◌, !, qed, by, move, keep, drop, use0, use1, split, split3, join, group, fsplit}
use Rattle.node_rope.proofs.Words.{fsplit3, fjoin, pick, await, rewrite, feq_i, feq_l, suffices, stop, fld, of_opd, no_more, and_then, first, blocks, exec, returns, enter}
use Rattle.node_rope.proofs.Words.{alloc_all, pass_all, free_all, look_at, get, get_in, sets, lands_last, env, sub, whole, fact, fact_i, tables, ◌⊑◌, yes, no, RattleType, owns}
use Rattle.node_rope.proofs.Words.{types_at, plain, Ptr, ptr_val, nothing, only, heard, opens, closes, bounded, MutBor, Lasts, lasts, triple_of, calls_at_last, Stays, stay_dropped}
use Rattle.node_rope.proofs.Words.{stay_ref, walk_of, Goes-dropped, Goes-ref, handle_tells, after, framed, proved_at, leaves, Ptr-Good, word-Good, spot_val}
use lib.ListN.{length-append, take}
use lib.Dec.{T as IsSo}
use mir.Val.{has_ty, WT}
use Rattle.std_alloc.proofs.BoxSteps.Form as box
use Rattle.std_alloc.proofs.BoxSteps.Steps.{box_out, box_in}
use Rattle.std_alloc.specs.contracts.boxed.Box.from_raw as callee
use Rattle.std_alloc.proofs.boxed.Box.from_raw.Met as callee_met
use Rattle.node_rope.specs.Heaps.{Mooring, heap_owns, box_at, IsEnd}
use Rattle.node_rope.specs.contracts.pile.Pile as pile
use Rattle.node_rope.specs.contracts.pile.Spot as spot
use Rattle.node_rope.proofs.BoxLemmas.{goes_last, parted}
use Rattle.node_rope.proofs.SpotLemmas.{Place, spot_had}
use Rattle.node_rope.specs.contracts.pile.Pile.take_box.{ended, clauses}
use Rattle.node_rope.specs.contracts.pile.Pile.take_box.Key.{name as #self}
use Rattle.node_rope.proofs.pile.Pile.take_box.Statement.{statement}
use Rattle.node_rope.proofs.pile.Pile.take_box.Code as code

pub take_box_spec : {M : Type 1} → statement M
take_box_spec 𝓤 𝓛 𝓜 𝓡 wired T A L LA g d dd allocator glued =
    let H = 𝓛.H in
    let 𝓣 = tables 𝓤 H 𝓜 𝓡 𝓡.env in
    let E : box.Bx = record { row = T; laws = L; al = record { row = A; laws = LA; g = g; d = d; drops = dd } } in
    let R : RattleType = box.R E in
    let P : RattleType = box.P E in
    let B : RattleType = box.B E in
    let Row : RattleType = pile.the_row R P g in
    let En = ended T A g d dd in
    let inst = bounded (a_type ∷ a_type ∷ []) (T, (A, tt)) (dcons d (dcons dd dnil)) in
    let fn = inst_fn inst code.function in
    let c = clauses T A g d dd 𝓛 𝓜.mem 𝓡.returns in
    let hs : Stays En.signature.params En.kept = (stay_ref (0 ∷ []) tt (plain (λ _. Row)), (stay_dropped (plain (λ _. Place)) yes, (stay_dropped (plain (λ _. P)) no, tt))) in
    let From = triple_of 𝓛 (callee.signature T A g d dd) (callee.spec T A g d dd 𝓛 𝓜.mem 𝓡.returns) in
    let known = callee_met.met 𝓤 𝓛 𝓜 𝓡 (code.calls-std_alloc::boxed::Box::from_raw 𝓡.env wired) T A L LA g d dd allocator glued in
    proved_at 𝓛 En hs c 𝓜 𝓡
    (Goes-ref 𝓛 3 0 tt (plain (λ _. Row)), (Goes-dropped 𝓛 3 (plain (λ _. Place)) yes (λ κs x f. refl), (Goes-dropped 𝓛 3 (plain (λ _. P)) no (λ κs x f. refl), tt)))
    (#self inst) fn (code.unfolded 𝓤 H 𝓜 𝓡 wired (T, (A, tt)) d dd) (λ z are.
    let κs = z.0.0 in let qs = z.0.1 in
    let self : MutBor Row.Denot = z.0.3.0 in
    let rb : ℕ = self.ref_ptr.0 in let ro : ℕ = self.ref_ptr.1 in
    let was : Row.Denot = self.now in
    let p : Ptr = z.0.3.1.0.address in
    let a : A.Denot = z.0.3.1.1.0 in
    let Post : Val → SProp 𝓤 = (walk_of 𝓛 En hs c).post z in
    let Run : List Val → SProp 𝓤 = λ ws. WpFn 𝓤 H 𝓣.C 𝓣.Λ fn ws Post in
    let t₀ = ‵ (flft κs.0 qs.0) in let t₁ = ‵ (flft κs.1.0 qs.1.0) in let t₂ = ‵ (flft κs.1.1.0 qs.1.1.0) in
    let In₁ = raw (fact 𝓤 (κs.1.0 ⊑ T.lives)) in let In₂ = raw (fact 𝓤 (κs.1.1.0 ⊑ A.lives)) in
    let Ends : Type 0 = IsEnd was.moorings (p, a) in
    qed 𝓛 (((t₀ ⊛ t₁ ⊛ t₂ ⊛ ‵ ftrue) ⊛ ‵ (owns (types_at En.signature.params κs) z.0.3 z.0.4)) ∷ raw ((c κs z.0.3).requires z.1) ∷ []) ∵
    split ! $ split3 ! $ move ! (2 ∷ []) $ split ! $ move ! (1 ∷ []) $ drop ! $ move ! (4 ∷ []) $
    use1 𝓛 (In₁ ⊛ In₂ ⊛ raw (fact 𝓤 Ends)) (id⊢ 𝓤 _) $ split3 ! $ move ! (2 ∷ []) $ heard ! Ends (λ end.
    -- [in₁; in₂; t₂; t₀; t₁; what is owned]
    move ! (5 ∷ []) $ fsplit3 ! $ fsplit3 ! $ feq_l !
    (λ e. move ! (2 ∷ []) $ spot_had ! z.0.3.1.0 z.0.4.1.0 (λ es. move ! (2 ∷ []) $ fsplit ! $ handle_tells E.al ! a z.0.4.1.1.0 (λ hv eh fits.
    -- [the handle; true; obs; bor; in₁; in₂; t₂; t₀; t₁]
    let args : List Val = vptr rb ro ∷ spot_val p ∷ hv ∷ [] in
    suffices ! (Run args) (subst (λ (us : List Val). ent 𝓤 (Run args) (Run us)) (sym (λ i. e i ++ (es i ++ (eh i ++ [])))) (id⊢ 𝓤 (Run args))) $
    enter ! 𝓣.C 𝓣.Λ fn args Post $ alloc_all ! (λ l. pass_all ! refl ((tt, tt), (word-Good spot.the_type.name p, (fits, tt))) $
    let Ev = env fn.locals l in
    first ! $ blocks ! $ sets ! (of_opd ! (get ! refl)) refl fits $ sets ! (of_opd ! (get_in ! (fld ! refl (stop !)) (sub ! 0 refl (whole !)))) refl (Ptr-Good p) $
    let k : ℕ = length was.moorings - 1 in
    let pair = was.paired in
    let fewer : List (Mooring A.Denot) = take k was.moorings in
    let long : length was.moorings ≡ length fewer + 1 = ap length end ∙ length-append fewer ((p, a) ∷ []) in
    let last = parted was.values k (omega arith) in
    let x : T.Denot = last.0 in
    let rest : List T.Denot = take k was.values in
    let many : length was.values ≡ length rest + 1 = ap length last.1 ∙ length-append rest (x ∷ []) in
    let alike : length rest ≡ length fewer = omega arith in
    let new : Row.Denot = record { kind = was.kind; values = rest; moorings = fewer; paired = alike } in
    let Own : List (Mooring A.Denot) → List T.Denot → Fml = heap_owns g.dealloc_token R in
    move ! (2 ∷ 3 ∷ 7 ∷ []) $ opens ! tt Row {h = was} rb ro (λ us. move ! (1 ∷ []) $ fsplit ! $ move ! (1 ∷ []) $
    rewrite ! 0 (λ (ms : List (Mooring A.Denot)). ‵ (Own ms was.values)) end refl $ rewrite ! 0 (λ (xs : List T.Denot). ‵ (Own (fewer ++ (p, a) ∷ []) xs)) last.1 refl $
    use1 𝓛 (‵ (Own fewer rest) ⊛ ‵ (box_at g.dealloc_token R (p, a) x)) (goes_last 𝓛 g.dealloc_token R fewer rest (p, a) x alike) $ split ! $
    move ! (2 ∷ 0 ∷ []) $ fjoin ! $ move ! (2 ∷ 0 ∷ 3 ∷ 4 ∷ 5 ∷ []) $ closes ! tt Row new us rb ro $
    -- [obs; bor; t₀; the box; the handle; true; in₁; in₂; t₂; t₁]
    let y : From.Ghost = (((κs.1.0, (κs.1.1.0, tt)), (qs.1.0, (qs.1.1.0, tt)), tt, (a, (p, tt)), (hv ∷ [], (ptr_val p ∷ [], tt))), x) in
    move ! (7 ∷ 3 ∷ []) $ join ! $ move ! (6 ∷ 0 ∷ []) $ join ! $
    move ! (5 ∷ []) $ feq_i ! (List Val) (ptr_val p ∷ []) (ptr_val p ∷ []) refl $ fjoin ! $ move ! (5 ∷ 0 ∷ []) $ fjoin ! $
    nothing ! $ move ! (6 ∷ 0 ∷ []) $ join ! $ move ! (6 ∷ 0 ∷ []) $ join ! $ join ! $ join ! $ use1 𝓛 (raw (From.pre y)) (id⊢ 𝓤 _) $
    calls_at_last ! (framed 𝓤 H 𝓜 𝓣) From known y (and_then ! (get ! refl) (and_then ! (get ! refl) (no_more !))) (λ u.
    use1 𝓛 (later (some (λ (r : B.Denot). ((t₁ ⊛ t₂ ⊛ ‵ ftrue) ⊛ ‵ (B.own_val r (u ∷ []))) ⊛ some (λ (ls : Lasts (callee.ended T A g d dd) y.0.0 y.0.3).
    ‵ (lasts (callee.ended T A g d dd) y.0.0 y.0.3 ls) ⊛ raw (fact 𝓤 (r.value ≡ x)) ⊛ raw (fact 𝓤 (r.alloc ≡ a)))))) (id⊢ 𝓤 (From.post y u)) $
    await ! tt $ pick ! (λ r. split ! $ move ! (1 ∷ []) $ pick ! (λ _. split3 ! $ drop ! $ heard ! (r.value ≡ x) (λ ev. drop ! $ split ! $ move ! (1 ∷ []) $
    box_out E ! r (u ∷ []) (λ b' o' h' e' us' fits'. box_in E ! r b' o' r.value e' refl $ rewrite ! 0 (λ (ws : List Val). ‵ (B.own_val r ws)) (sym us') refl $
    -- [the result; the tokens; obs; bor; t₀]
    let Fine : Val → Type 0 = λ w. IsSo (has_ty (box.box_ty E) w) × WT w in
    let good : Fine u = subst Fine (sym (ap only us')) (box.box_typed E h' b' o' fits') in
    lands_last ! refl good $ exec ! 𝓣.C 𝓣.Λ Ev (after 1 fn.body) (at_ret Ev Post) $ sets ! (of_opd ! (get ! refl)) refl good $
    returns ! (look_at ! 0 refl) $ free_all ! refl $
    let says : was.values ≡ rest ++ r.value ∷ [] = last.1 ∙ ap (λ (w : T.Denot). rest ++ w ∷ []) (sym ev) in
    let Values : Type 0 = was.values ≡ rest ++ r.value ∷ [] in
    let Moorings : Type 0 = was.moorings ≡ fewer ++ (p, a) ∷ [] in
    move ! (1 ∷ []) $ split3 ! $ move ! (6 ∷ 0 ∷ 1 ∷ 2 ∷ []) $ group ! 4 $
    -- [the tokens; the result; obs; bor]
    move ! (2 ∷ 3 ∷ []) $ fjoin ! $ feq_i ! (List Val) z.0.4.0 (vptr rb ro ∷ []) e $ fjoin ! $ nothing ! $ nothing ! $ fjoin ! $ nothing ! $ fjoin ! $ move !
    (1 ∷ 0 ∷ []) $ fjoin ! $
    use0 𝓛 (raw (fact 𝓤 Moorings)) (fact_i 𝓤 Moorings (emp 𝓤) end) $ use0 𝓛 (raw (fact 𝓤 Values)) (fact_i 𝓤 Values (emp 𝓤) says) $ join ! $
    keep ! (2 ∷ 1 ∷ 3 ∷ 0 ∷ []) $ by ! (leaves 𝓛 En hs c z u r (new, (tt, (tt, tt))) (tt, (tt, (tt, tt))))))))))))))))
