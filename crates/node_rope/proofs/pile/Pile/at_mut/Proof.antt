-- `at_mut` lends a value, and the pile follows it.
use Rattle.node_rope.proofs.Words.{◌≡◌, ℕ, ◌<◌, List, [], ◌∷◌, ◌++◌, length, get_or, slice_set, refl, sym, ap, subst, arith, Ura, a_type, dcons, dnil, named, w64, inst_fn, bare}
use Rattle.node_rope.proofs.Words.{Val, vptr, vint, full_share, SProp, ent, sep, emp, id⊢, Lft, GName, Share, Fml, ftrue, fsep, flft, WpFn, Logic, sem, ‵, raw, ◌⊛◌, some, later}
use Rattle.node_rope.proofs.Words.{at_ret, ◌$◌, ◌∵◌, !, qed, by, move, keep, drop, use0, use1, use2, split, split3, join, group, fsplit, fsplit3, fjoin, fpack, pick, await}
use Rattle.node_rope.proofs.Words.{rewrite, feq_l, flt_l, suffices, done, stop, fld, addr, of_opd, first, blocks, exec, returns, enter, alloc_all, pass_all, free_all, look_at, get}
use Rattle.node_rope.proofs.Words.{get_in, through, sets, sets_last, is, env, sub, whole, fact, fact_i, tables, ◌⊑◌, yes, no, RattleType, owns, types_at, plain, mut_ref_to, Ptr}
use Rattle.node_rope.proofs.Words.{block_ptr, ptr_val, lies_at, in_a_block, cell_at, part_at, lone, mem, nothing, heard, opens, param, bounded, usize, MutBor, MutRef, Struct}
use Rattle.node_rope.proofs.Words.{shape, Stays, stay_dropped, walk_of, Goes-dropped, Goes-spent_ref, after, proved_at, leaves, word-Good, spot_val}
use denote.Follow.{follows, lends_Part}
use denote.Memory.{part_of}
use Rattle.node_rope.specs.Heaps.{LiesAt, heap_owns, heap_but, box_at}
use Rattle.node_rope.specs.Swaps.{holding}
use Rattle.node_rope.specs.contracts.pile.Pile as pile
use Rattle.node_rope.specs.contracts.pile.Spot as spot
use Rattle.node_rope.proofs.BoxLemmas.{allocator_at, lies-below, value_at, value-is, one_out, one_in}
use Rattle.node_rope.proofs.SpotLemmas.{Place, spot_had}
use Rattle.node_rope.specs.contracts.pile.Pile.at_mut.{ended, clauses}
use Rattle.node_rope.specs.contracts.pile.Pile.at_mut.Key.{name as #self}
use Rattle.node_rope.proofs.pile.Pile.at_mut.Statement.{statement}
use Rattle.node_rope.proofs.pile.Pile.at_mut.Code as code
use Rattle.std.specs.declared.alloc.Allocator.{Ghosts}

module _ {M : Type 1} {𝓤 : Ura M} (𝓛 : Logic 𝓤) (R P : RattleType) (g : Ghosts P.Denot) where
  abbrev Row : RattleType
  Row = pile.the_row R P g

  module _ (was : Row.Denot) (i : ℕ) (p : Ptr) (lies : LiesAt was.moorings i p) (below : i < length was.values) (b o rb ro : ℕ) (us : List Val) where
    abbrev frees : Fml
    frees = g.dealloc_token (allocator_at was.moorings i p lies) (bare (lone R.mir)) p

    -- all but the value
    abbrev Rest : Fml
    Rest = fsep frees (fsep (heap_but g.dealloc_token R i was.moorings was.values)
        (fsep ((Struct (shape (pile.the_type R P g))).own_val (tt, tt) us) (cell_at full_share Row.mir us rb ro)))

    back : p ≡ block_ptr b o → (w : R.Denot) → ent 𝓤 (sep 𝓤 (sem 𝓛 ((mem R).own_at w b o)) (sem 𝓛 Rest)) (sem 𝓛 ((mem Row).own_at (holding was i w) rb ro))
    unfolding part_of
    back e w =
        qed 𝓛 (‵ (part_at R full_share w b o) ∷ ‵ Rest ∷ []) ∵ move ! (1 ∷ []) $ fsplit3 ! $ move ! (2 ∷ []) $ fsplit ! $
        -- [the fields; the cell; what frees; the others; the value]
        move ! (4 ∷ []) $ use1 𝓛 (‵ (lies_at R full_share (block_ptr b o) w)) (id⊢ 𝓤 _) $ rewrite ! 0 (λ (q : Ptr). ‵ (lies_at R full_share q w)) (sym e) refl $ move !
        (0 ∷ 3 ∷ []) $ fjoin ! $ move ! (0 ∷ 3 ∷ []) $
        use2 𝓛 (‵ (heap_owns g.dealloc_token R was.moorings (slice_set was.values i w))) (one_in 𝓛 g.dealloc_token R was.moorings was.values i p w lies below) $
        move ! (1 ∷ 0 ∷ []) $ fjoin ! $ move ! (1 ∷ 0 ∷ []) $ fjoin ! $
        fpack ! (List Val) (λ vs. fsep (cell_at full_share Row.mir vs rb ro) (Row.own_val (holding was i w) vs)) us $ done !

pub at_mut_spec : {M : Type 1} → statement M
at_mut_spec 𝓤 𝓛 𝓜 𝓡 wired T A L LA g d dd allocator glued =
    let H = 𝓛.H in
    let 𝓣 = tables 𝓤 H 𝓜 𝓡 𝓡.env in
    let R : RattleType = param 0 T in
    let P : RattleType = param 1 A in
    let W : RattleType = pile.the_row R P g in
    let En = ended T A g d dd in
    let inst = bounded (a_type ∷ a_type ∷ []) (T, (A, tt)) (dcons d (dcons dd dnil)) in
    let fn = inst_fn inst code.function in
    let c = clauses T A g d dd 𝓛 𝓜.mem 𝓡.returns in
    let hs : Stays En.signature.params En.kept =
    (stay_dropped (mut_ref_to (0 ∷ []) tt (plain (λ _. W))) no, (stay_dropped (plain (λ _. Place)) yes, (stay_dropped (plain (λ _. usize)) yes, tt))) in
    proved_at 𝓛 En hs c 𝓜 𝓡 (
      Goes-spent_ref 𝓛 3 (0 ∷ []) tt (plain (λ _. W)),
      (Goes-dropped 𝓛 3 (plain (λ _. Place)) yes (λ κs x f. refl), (Goes-dropped 𝓛 3 (plain (λ _. usize)) yes (λ κs x f. refl), tt)),
    )
    (#self inst) fn (code.unfolded 𝓤 H 𝓜 𝓡 wired (T, (A, tt)) d dd) (λ z are.
    let κs = z.0.0 in let qs = z.0.1 in
    let κ : Lft = κs.0 in let q : Share = qs.0 in
    let self : MutBor W.Denot = z.0.3.0 in
    let γ : GName = self.ghost_name in
    let rb : ℕ = self.ref_ptr.0 in let ro : ℕ = self.ref_ptr.1 in
    let was : W.Denot = self.now in
    let p : Ptr = z.0.3.1.0.address in
    let i : ℕ = z.0.3.1.1.0 in
    let Post : Val → SProp 𝓤 = (walk_of 𝓛 En hs c).post z in
    let Run : List Val → SProp 𝓤 = λ ws. WpFn 𝓤 H 𝓣.C 𝓣.Λ fn ws Post in
    let t₀ = ‵ (flft κ q) in let t₁ = ‵ (flft κs.1.0 qs.1.0) in let t₂ = ‵ (flft κs.1.1.0 qs.1.1.0) in
    let In₁ = raw (fact 𝓤 (κs.1.0 ⊑ T.lives)) in let In₂ = raw (fact 𝓤 (κs.1.1.0 ⊑ A.lives)) in
    let Lies : Type 0 = LiesAt was.moorings i p in
    qed 𝓛 (((t₀ ⊛ t₁ ⊛ t₂ ⊛ ‵ ftrue) ⊛ ‵ (owns (types_at En.signature.params κs) z.0.3 z.0.4)) ∷ raw ((c κs z.0.3).requires z.1) ∷ []) ∵
    split ! $ split3 ! $ move ! (2 ∷ []) $ split ! $ move ! (1 ∷ []) $ drop ! $ move ! (4 ∷ []) $
    use1 𝓛 (In₁ ⊛ In₂ ⊛ raw (fact 𝓤 Lies)) (id⊢ 𝓤 _) $ split3 ! $ move ! (2 ∷ []) $ heard ! Lies (λ lies.
    -- [in₁; in₂; t₂; t₀; t₁; what is owned]
    move ! (5 ∷ []) $ fsplit3 ! $ fsplit3 ! $ feq_l !
    (λ e. move ! (2 ∷ []) $ spot_had ! z.0.3.1.0 z.0.4.1.0 (λ es. move ! (2 ∷ []) $ fsplit ! $ fsplit ! $ feq_l ! (λ en. flt_l ! (λ fits. drop ! $
    -- [obs; bor; in₁; in₂; t₂; t₀; t₁]
    let args : List Val = vptr rb ro ∷ spot_val p ∷ vint w64 i ∷ [] in
    suffices ! (Run args) (subst (λ (us : List Val). ent 𝓤 (Run args) (Run us)) (sym (λ j. e j ++ (es j ++ (en j ++ [])))) (id⊢ 𝓤 (Run args))) $
    enter ! 𝓣.C 𝓣.Λ fn args Post $ alloc_all ! (λ l. pass_all ! refl ((tt, tt), (word-Good spot.the_type.name p, ((tt, record { fits = fits }), tt))) $
    let Ev = env fn.locals l in
    let pair = was.paired in
    let below : i < length was.values = let h = lies-below was.moorings i p lies in omega arith in
    let x : T.Denot = value_at was.values i below in
    let got : get_or was.values i x ≡ x = value-is was.values i below x in
    let a : A.Denot = allocator_at was.moorings i p lies in
    move ! (0 ∷ 1 ∷ 5 ∷ []) $ opens ! tt W {h = was} rb ro (λ us. move ! (1 ∷ []) $ fsplit ! $ move ! (1 ∷ []) $
    use1 𝓛 (‵ (box_at g.dealloc_token R (p, a) (get_or was.values i x)) ⊛ ‵ (heap_but g.dealloc_token R i was.moorings was.values))
    (one_out 𝓛 g.dealloc_token R was.moorings was.values i p x lies below) $ split ! $
    rewrite ! 0 (λ (w : T.Denot). ‵ (box_at g.dealloc_token R (p, a) w)) got refl $ fsplit ! $
    -- [the value; what frees; the others; the fields; the cell; the open borrow; obs; auth; in₁; in₂; t₂; t₁]
    in_a_block ! p (λ r. lies_at R full_share r x) (id⊢ 𝓤 _) (λ b o at.
    sets ! (is ! (of_opd ! (get_in ! (fld ! refl (stop !)) (sub ! 0 refl (whole !)))) (ap ptr_val at)) refl (tt, tt) $
    first ! $ blocks ! $ sets_last ! (addr ! (through ! refl (stop !))) refl (tt, tt) $ exec ! 𝓣.C 𝓣.Λ Ev (after 2 fn.body) (at_ret Ev Post) $ sets ! (of_opd ! (get ! refl)) refl
    (tt, tt) $
    let Left : Fml = Rest 𝓛 R P g was i p lies below b o rb ro us in
    let way = back 𝓛 R P g was i p lies below b o rb ro us at in
    move ! (3 ∷ 4 ∷ []) $ fjoin ! $ move ! (3 ∷ 0 ∷ []) $ fjoin ! $ move ! (2 ∷ 0 ∷ []) $ fjoin ! $ move ! (2 ∷ 3 ∷ 4 ∷ 1 ∷ 0 ∷ []) $ group ! 5 $
    use1 𝓛 (later (some (λ (δ : GName). ‵ ((MutRef (named 0) κ R).own_val (record { ref_ptr = (b, o); ghost_name = δ; now = x }) (vptr b o ∷ [])) ⊛ t₀ ⊛ ‵
    (follows W R γ δ (holding was i)))))
    (lends_Part 𝓛 W R (holding was i) (named 0) κ q rb ro b o γ (sem 𝓛 Left) way (W.coded.code was) (W.coded.code was) x) $ await ! tt $ pick ! (λ δ. split3 ! $
    -- [the reference; t₀; what follows; in₁; in₂; t₂; t₁]
    returns ! (look_at ! 0 refl) $ free_all ! refl $
    let Shown : Type 0 = x ≡ get_or was.values i x in
    nothing ! $ move ! (6 ∷ 0 ∷ []) $ join ! $ move ! (6 ∷ 0 ∷ []) $ join ! $ move ! (2 ∷ 0 ∷ []) $ join ! $
    -- [the tokens; the reference; what follows]
    use0 𝓛 (raw (fact 𝓤 Shown)) (fact_i 𝓤 Shown (emp 𝓤) (sym got)) $ move ! (3 ∷ 0 ∷ []) $ join ! $
    nothing ! $ nothing ! $ fjoin ! $ nothing ! $ fjoin ! $ nothing ! $ fjoin ! $
    keep ! (2 ∷ 0 ∷ 3 ∷ 1 ∷ []) $ by ! (leaves 𝓛 En hs c z (vptr b o) (record { ref_ptr = (b, o); ghost_name = δ; now = x }) (tt, (tt, (tt, tt))) (tt, (tt, (tt, tt))))))))))))))
