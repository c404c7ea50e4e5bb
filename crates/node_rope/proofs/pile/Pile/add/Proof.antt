-- `add` takes the box apart, and what it owned comes last.
use Rattle.node_rope.proofs.Words.{◌≡◌, ℕ, List, [], ◌∷◌, ◌++◌, refl, sym, ap, subst, arith, a_type, dcons, dnil, inst_fn, Val, vptr, SProp, ent, sep, emp, id⊢, ftrue, flft, WpFn}
use Rattle.node_rope.proofs.Words.{‵, raw, ◌⊛◌, some, later, ◌$◌, ◌∵◌, !, qed, by, move, keep, drop, use0, use1, use2, split, split3, join, group, fsplit, fsplit3, fjoin, fpack}
use Rattle.node_rope.proofs.Words.{pick, await, feq_i, feq_l, suffices, of_opd, no_more, and_then, returns, enter, alloc_all, pass_all, free_all, look_at, get, sets, lands_as, agg}
use Rattle.node_rope.proofs.Words.{fact, fact_i, tables, no, RattleType, Valss, owns, types_at, plain, Ptr, RawPtr, ptr_val, nothing, only, opens, closes, bounded, MutBor, within}
use Rattle.node_rope.proofs.Words.{Lasts, lasts, triple_of, calls_at, Stays, stay_dropped, stay_ref, walk_of, Goes-ref, Goes-blank, framed, proved_at, leaves, box_owns, Ptr-Good}
use Rattle.node_rope.proofs.Words.{word-Good, spot_val}
use lib.ListN.{length-append}
use denote.Struct.Declared as Declared
use Rattle.std_alloc.proofs.BoxSteps.Form as box
use Rattle.std_alloc.proofs.BoxSteps.Steps.{box_out, box_in}
use Rattle.std_alloc.specs.contracts.boxed.Box.into_raw as callee
use Rattle.std_alloc.proofs.boxed.Box.into_raw.Met as callee_met
use Rattle.node_rope.specs.Heaps.{heap_owns}
use Rattle.node_rope.specs.contracts.pile.Pile as pile
use Rattle.node_rope.specs.contracts.pile.Spot as spot
use Rattle.node_rope.proofs.BoxLemmas.{comes_last}
use Rattle.node_rope.specs.contracts.pile.Pile.add.{ended, clauses}
use Rattle.node_rope.specs.contracts.pile.Pile.add.Key.{name as #self}
use Rattle.node_rope.proofs.pile.Pile.add.Statement.{statement}
use Rattle.node_rope.proofs.pile.Pile.add.Code as code

pub add_spec : {M : Type 1} → statement M
add_spec 𝓤 𝓛 𝓜 𝓡 wired T A L LA g d dd dx allocator glued glue =
    let H = 𝓛.H in
    let 𝓣 = tables 𝓤 H 𝓜 𝓡 𝓡.env in
    let E : box.Bx = record { row = T; laws = L; al = record { row = A; laws = LA; g = g; d = d; drops = dd } } in
    let R : RattleType = box.R E in
    let B : RattleType = box.B E in
    let Row : RattleType = pile.the_row R (box.P E) g in
    let En = ended T A g d dd dx in
    let inst = bounded (a_type ∷ a_type ∷ []) (T, (A, tt)) (dcons d (dcons dd (dcons dx dnil))) in
    let fn = inst_fn inst code.function in
    let c = clauses T A g d dd dx 𝓛 𝓜.mem 𝓡.returns in
    let hs : Stays En.signature.params En.kept = (stay_ref (0 ∷ []) tt (plain (λ _. Row)), (stay_dropped (plain (λ _. B)) no, tt)) in
    let Raws = triple_of 𝓛 (callee.signature T A g d dd dx) (callee.spec T A g d dd dx 𝓛 𝓜.mem 𝓡.returns) in
    let known = callee_met.met 𝓤 𝓛 𝓜 𝓡 (code.calls-std_alloc::boxed::Box::into_raw 𝓡.env wired) T A L LA g d dd dx allocator glued glue in
    proved_at 𝓛 En hs c 𝓜 𝓡 (Goes-ref 𝓛 3 0 tt (plain (λ _. Row)), (Goes-blank 𝓛 3 (plain (λ _. B)) no (λ κs x f. tt), tt)) (#self inst) fn
    (code.unfolded 𝓤 H 𝓜 𝓡 wired (T, (A, tt)) d dd dx) (λ z are.
    let κs = z.0.0 in let qs = z.0.1 in
    let self : MutBor Row.Denot = z.0.3.0 in
    let rb : ℕ = self.ref_ptr.0 in let ro : ℕ = self.ref_ptr.1 in
    let was : Row.Denot = self.now in
    let v : B.Denot = z.0.3.1.0 in
    let Post : Val → SProp 𝓤 = (walk_of 𝓛 En hs c).post z in
    let Run : List Val → SProp 𝓤 = λ ws. WpFn 𝓤 H 𝓣.C 𝓣.Λ fn ws Post in
    let t₀ = ‵ (flft κs.0 qs.0) in let t₁ = ‵ (flft κs.1.0 qs.1.0) in let t₂ = ‵ (flft κs.1.1.0 qs.1.1.0) in
    qed 𝓛 (((t₀ ⊛ t₁ ⊛ t₂ ⊛ ‵ ftrue) ⊛ ‵ (owns (types_at En.signature.params κs) z.0.3 z.0.4)) ∷ raw ((c κs z.0.3).requires z.1) ∷ []) ∵
    split ! $ split3 ! $ move ! (2 ∷ []) $ split ! $ move ! (1 ∷ []) $ drop ! $ move ! (3 ∷ []) $ fsplit3 ! $ fsplit3 ! $ feq_l ! (λ e. move ! (2 ∷ []) $
    box_out E ! v z.0.4.1.0 (λ b o hv ep ws fits. box_in E ! v b o v.value ep refl $
    -- [the box; obs; bor; true; t₂; t₀; t₁; what is asked]
    let w : Val = box.word E hv b o in let typed = box.box_typed E hv b o fits in
    suffices ! (Run (vptr rb ro ∷ w ∷ []))
    (subst (λ (us : List Val). ent 𝓤 (Run (vptr rb ro ∷ w ∷ [])) (Run us)) (sym (λ i. e i ++ (ws i ++ []))) (id⊢ 𝓤 (Run (vptr rb ro ∷ w ∷ [])))) $
    enter ! 𝓣.C 𝓣.Λ fn (vptr rb ro ∷ w ∷ []) Post $ alloc_all ! (λ l. pass_all ! refl ((tt, tt), (typed, tt)) $
    sets ! (of_opd ! (get ! refl)) refl typed $
    let y : Raws.Ghost = (((κs.1.0, (κs.1.1.0, tt)), (qs.1.0, (qs.1.1.0, tt)), tt, (v, tt), (w ∷ [], tt)), tt) in
    nothing ! $ move ! (1 ∷ 0 ∷ []) $ fjoin ! $ move ! (4 ∷ 3 ∷ []) $ join ! $ move ! (5 ∷ 0 ∷ []) $ join ! $ join ! $ move ! (0 ∷ 4 ∷ []) $ join ! $ use1 𝓛 (raw (Raws.pre y))
    (id⊢ 𝓤 _) $
    calls_at ! (framed 𝓤 H 𝓜 𝓣) Raws known y (and_then ! (get ! refl) (no_more !)) (λ u.
    use1 𝓛 (later (some (λ (r : Ptr). ((t₁ ⊛ t₂ ⊛ ‵ ftrue) ⊛ ‵ (RawPtr.own_val r (u ∷ []))) ⊛ some (λ (ls : Lasts (callee.ended T A g d dd dx) y.0.0 y.0.3).
    ‵ (lasts (callee.ended T A g d dd dx) y.0.0 y.0.3 ls) ⊛ ‵ (box_owns (g.dealloc_token v.alloc) R r v.value))))) (id⊢ 𝓤 (Raws.post y u)) $
    await ! tt $ pick ! (λ r. split ! $ move ! (1 ∷ []) $ pick ! (λ _. split ! $ drop ! $ move ! (1 ∷ []) $ split ! $ move ! (1 ∷ []) $ feq_l ! (λ eu.
    -- [the tokens; the memory; obs; bor; t₀]
    lands_as ! (ap only eu) refl (Ptr-Good r) $ sets ! (of_opd ! (get ! refl)) refl (Ptr-Good r) $
    sets ! (agg ! (and_then ! (get ! refl) (no_more !))) refl (word-Good spot.the_type.name r) $
    let ms = was.moorings ++ (r, v.alloc) ∷ [] in
    let xs = was.values ++ v.value ∷ [] in
    let pair = was.paired in
    let new : Row.Denot = record {
      kind = was.kind;
      values = xs;
      moorings = ms;
      paired = omega (arith, length-append was.values (v.value ∷ []), length-append was.moorings ((r, v.alloc) ∷ []));
    } in
    move ! (2 ∷ 3 ∷ 4 ∷ []) $ opens ! tt Row {h = was} rb ro (λ us. move ! (1 ∷ []) $ fsplit ! $ move ! (1 ∷ 7 ∷ []) $
    use2 𝓛 (‵ (heap_owns g.dealloc_token R ms xs)) (comes_last 𝓛 g.dealloc_token R was.moorings was.values (r, v.alloc) v.value pair) $
    move ! (1 ∷ 0 ∷ []) $ fjoin ! $ move ! (1 ∷ 0 ∷ []) $ closes ! tt Row new us rb ro $
    -- [obs; bor; t₀; the tokens]
    returns ! (look_at ! 0 refl) $ free_all ! refl $
    let made : spot.the_row.Denot = record { address = r } in
    let Told : SProp 𝓤 = sep 𝓤 (fact 𝓤 (xs ≡ xs)) (fact 𝓤 (ms ≡ ms)) in
    -- the tokens
    move ! (3 ∷ []) $ split3 ! $ move ! (5 ∷ 0 ∷ 1 ∷ 2 ∷ []) $ group ! 4 $
    -- self
    move ! (1 ∷ 2 ∷ []) $ fjoin ! $ feq_i ! (List Val) z.0.4.0 (vptr rb ro ∷ []) e $ fjoin ! $ nothing ! $ nothing ! $ fjoin ! $ move ! (1 ∷ 0 ∷ []) $ fjoin ! $
    -- the result
    nothing ! $ feq_i ! (List Val) (ptr_val r ∷ []) (ptr_val r ∷ []) refl $ fjoin ! $ feq_i ! (List Val) (spot_val r ∷ []) (spot_val r ∷ []) refl $ fjoin ! $
    fpack ! (Valss (RawPtr ∷ [])) (within (Declared.shape spot.the_type) (r, tt) (spot_val r ∷ [])) (ptr_val r ∷ [], tt) $
    use0 𝓛 (raw (fact 𝓤 (ms ≡ ms))) (fact_i 𝓤 (ms ≡ ms) (emp 𝓤) refl) $ use0 𝓛 (raw (fact 𝓤 (xs ≡ xs))) (fact_i 𝓤 (xs ≡ xs) (emp 𝓤) refl) $ join ! $
    -- [the facts; the result; self; the tokens]
    keep ! (3 ∷ 2 ∷ 1 ∷ 0 ∷ []) $ by ! (leaves 𝓛 En hs c z (spot_val r) made (new, ((tt, (tt, tt)), tt)) (tt, (tt, tt))))))))))))
