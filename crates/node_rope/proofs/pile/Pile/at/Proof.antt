-- `at` shows a value for as long as the pile is borrowed.
use Rattle.node_rope.proofs.Words.{◌≡◌, ℕ, ◌<◌, List, [], ◌∷◌, ◌++◌, length, get_or, refl, sym, ap, subst, arith, a_type, dcons, dnil, w64, inst_fn, Val, vptr, vint, SProp, ent}
use Rattle.node_rope.proofs.Words.{emp, id⊢, Lft, ftrue, flft, fhide, WpFn, ‵, raw, ◌⊛◌, at_ret, ◌$◌, ◌∵◌, !, qed, by, move, keep, drop, use0, use1, split, split3, fsplit, fsplit3}
use Rattle.node_rope.proofs.Words.{fjoin, rewrite, feq_i, feq_l, flt_l, suffices, stop, fld, addr, of_opd, first, blocks, exec, returns, enter, alloc_all, pass_all, free_all}
use Rattle.node_rope.proofs.Words.{look_at, get, get_in, through, sets, sets_last, is, env, sub, whole, fact, fact_i, tables, ◌⊑◌, yes, RattleType, owns, types_at, plain, Ptr}
use Rattle.node_rope.proofs.Words.{InBlock, ptr_val, block_of, count_of, at_block, hidden_shr, nothing, heard, unhide, hide, param, bounded, RefOf, usize, Struct, shape, lent_at}
use Rattle.node_rope.proofs.Words.{lent_out, in_block_says, Stays, stay_dropped, walk_of, Goes-dropped, after, proved_at, leaves, word-Good, spot_val}
use Rattle.std.specs.contracts.marker.PhantomData as Mark
use Rattle.std_alloc.specs.contracts.boxed.Box as Boxed
use Rattle.node_rope.specs.Heaps.{LiesAt, heap_lends}
use Rattle.node_rope.specs.contracts.pile.Pile as pile
use Rattle.node_rope.specs.contracts.pile.Spot as spot
use Rattle.node_rope.proofs.BoxLemmas.{lies-below, value_at, value-is, lent_in}
use Rattle.node_rope.proofs.SpotLemmas.{Place, spot_had}
use Rattle.node_rope.specs.contracts.pile.Pile.at.{ended, clauses}
use Rattle.node_rope.specs.contracts.pile.Pile.at.Key.{name as #self}
use Rattle.node_rope.proofs.pile.Pile.at.Statement.{statement}
use Rattle.node_rope.proofs.pile.Pile.at.Code as code

pub at_spec : {M : Type 1} → statement M
at_spec 𝓤 𝓛 𝓜 𝓡 wired T A L LA g d dd allocator glued =
    let H = 𝓛.H in
    let 𝓣 = tables 𝓤 H 𝓜 𝓡 𝓡.env in
    let R : RattleType = param 0 T in
    let P : RattleType = param 1 A in
    let Row : RattleType = pile.the_row R P g in
    let En = ended T A g d dd in
    let inst = bounded (a_type ∷ a_type ∷ []) (T, (A, tt)) (dcons d (dcons dd dnil)) in
    let fn = inst_fn inst code.function in
    let c = clauses T A g d dd 𝓛 𝓜.mem 𝓡.returns in
    let own_self = RefOf (0 ∷ []) tt (plain (λ _. Row)) (λ _. tt) in
    let hs : Stays En.signature.params En.kept = (stay_dropped own_self yes, (stay_dropped (plain (λ _. Place)) yes, (stay_dropped (plain (λ _. usize)) yes, tt))) in
    proved_at 𝓛 En hs c 𝓜 𝓡 (
      Goes-dropped 𝓛 3 own_self yes (λ κs x f. refl),
      (Goes-dropped 𝓛 3 (plain (λ _. Place)) yes (λ κs x f. refl), (Goes-dropped 𝓛 3 (plain (λ _. usize)) yes (λ κs x f. refl), tt)),
    )
    (#self inst) fn (code.unfolded 𝓤 H 𝓜 𝓡 wired (T, (A, tt)) d dd) (λ z are.
    let κs = z.0.0 in let qs = z.0.1 in
    let κ : Lft = κs.0 in
    let b : ℕ = z.0.3.0.ref_ptr.0 in let o : ℕ = z.0.3.0.ref_ptr.1 in
    let d' : Row.Denot = z.0.3.0.now in
    let p : Ptr = z.0.3.1.0.address in
    let i : ℕ = z.0.3.1.1.0 in
    let Post : Val → SProp 𝓤 = (walk_of 𝓛 En hs c).post z in
    let Run : List Val → SProp 𝓤 = λ ws. WpFn 𝓤 H 𝓣.C 𝓣.Λ fn ws Post in
    let toks = ‵ (flft κ qs.0) ⊛ ‵ (flft κs.1.0 qs.1.0) ⊛ ‵ (flft κs.1.1.0 qs.1.1.0) ⊛ ‵ ftrue in
    let In₁ = raw (fact 𝓤 (κs.1.0 ⊑ T.lives)) in let In₂ = raw (fact 𝓤 (κs.1.1.0 ⊑ A.lives)) in
    let Lies : Type 0 = LiesAt d'.moorings i p in
    qed 𝓛 ((toks ⊛ ‵ (owns (types_at En.signature.params κs) z.0.3 z.0.4)) ∷ raw ((c κs z.0.3).requires z.1) ∷ []) ∵
    split ! $ move ! (2 ∷ []) $ use1 𝓛 (In₁ ⊛ In₂ ⊛ raw (fact 𝓤 Lies)) (id⊢ 𝓤 _) $ split3 ! $ move ! (2 ∷ []) $ heard ! Lies (λ lies.
    -- [in₁; in₂; the tokens; what is owned]
    move ! (3 ∷ []) $ fsplit3 ! $ fsplit ! $ feq_l !
    (λ e. move ! (1 ∷ []) $ spot_had ! z.0.3.1.0 z.0.4.1.0 (λ es. move ! (1 ∷ []) $ fsplit ! $ fsplit ! $ feq_l ! (λ en. flt_l ! (λ fits. drop ! $
    keep ! (0 ∷ 3 ∷ []) $
    -- [the pile; the tokens]
    let args : List Val = vptr b o ∷ spot_val p ∷ vint w64 i ∷ [] in
    suffices ! (Run args) (subst (λ (us : List Val). ent 𝓤 (Run args) (Run us)) (sym (λ j. e j ++ (es j ++ (en j ++ [])))) (id⊢ 𝓤 (Run args))) $
    enter ! 𝓣.C 𝓣.Λ fn args Post $ alloc_all ! (λ l. pass_all ! refl ((tt, tt), (word-Good spot.the_type.name p, ((tt, record { fits = fits }), tt))) $
    let Ev = env fn.locals l in
    let kind = Boxed.the_row R P g in
    let pair = d'.paired in
    let below : i < length d'.values = let h = lies-below d'.moorings i p lies in omega arith in
    let x : T.Denot = value_at d'.values i below in
    let got : get_or d'.values i x ≡ x = value-is d'.values i below x in
    use1 𝓛 (‵ (hidden_shr (Struct (shape (pile.the_type R P g))) κ (tt, tt) b o) ⊛ ‵ (fhide (heap_lends R d'.moorings d'.values κ)))
    (lent_out 𝓛 (pile.struct R P g) (pile.the_codes R.Denot P.Denot R.coded P.coded (Mark.the_row kind).coded kind.coded) (pile.the_heap R P g) (pile.the_lent R P g) κ d' b o) $
    split ! $ drop ! $ unhide ! $ use1 𝓛 (‵ (lent_at R p (get_or d'.values i x) κ)) (lent_in 𝓛 R κ d'.moorings d'.values i p x lies below) $
    rewrite ! 0 (λ (w : T.Denot). ‵ (lent_at R p w κ)) got refl $ fsplit ! $
    use1 𝓛 (raw (fact 𝓤 (InBlock p))) (in_block_says 𝓛 p) $ heard ! (InBlock p) (λ inb. hide ! $
    let there : Val = vptr (block_of p) (count_of p) in
    sets ! (is ! (of_opd ! (get_in ! (fld ! refl (stop !)) (sub ! 0 refl (whole !)))) (ap ptr_val (at_block p inb))) refl (tt, tt) $
    first ! $ blocks ! $ sets_last ! (addr ! (through ! refl (stop !))) refl (tt, tt) $ exec ! 𝓣.C 𝓣.Λ Ev (after 2 fn.body) (at_ret Ev Post) $ sets ! (of_opd ! (get ! refl)) refl
    (tt, tt) $
    feq_i ! (List Val) (there ∷ []) (there ∷ []) refl $ fjoin ! $
    let Shown : Type 0 = x ≡ get_or d'.values i x in
    returns ! (look_at ! 0 refl) $ free_all ! refl $
    use0 𝓛 (raw (fact 𝓤 Shown)) (fact_i 𝓤 Shown (emp 𝓤) (sym got)) $ nothing ! $ nothing ! $ fjoin ! $ nothing ! $ fjoin ! $ nothing ! $ fjoin ! $
    keep ! (3 ∷ 0 ∷ 2 ∷ 1 ∷ []) $ by ! (leaves 𝓛 En hs c z there (record { ref_ptr = (block_of p, count_of p); now = x }) (tt, (tt, (tt, tt))) (tt, (tt, (tt, tt))))))))))))
