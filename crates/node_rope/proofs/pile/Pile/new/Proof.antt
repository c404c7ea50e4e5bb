-- `new` owns nothing.
use Rattle.node_rope.proofs.Words.{◌≡◌, [], ◌∷◌, refl, a_type, dcons, dnil, inst_fn, Val, vstruct, vcons, vnil, SProp, emp, Fml, ftrue, flft, ‵, raw, ◌⊛◌, ◌$◌, ◌∵◌, !, qed, by}
use Rattle.node_rope.proofs.Words.{keep, use0, split, join, fjoin, no_more, and_then, returns, enter, alloc_all, pass_all, free_all, look_at, get, sets, agg, fact, fact_i, tables}
use Rattle.node_rope.proofs.Words.{RattleType, nothing, param, bounded, Struct, shape, Stays, walk_of, proved_at, leaves}
use denote.Shadow.{makes_shadow}
use Rattle.std.specs.declared.marker.PhantomData.{PhantomData}
use Rattle.std_alloc.specs.declared.boxed.Box.{Box}
use Rattle.node_rope.specs.contracts.pile.Pile as pile
use Rattle.node_rope.specs.contracts.pile.Pile.new.{ended, clauses}
use Rattle.node_rope.specs.contracts.pile.Pile.new.Key.{name as #self}
use Rattle.node_rope.proofs.pile.Pile.new.Statement.{statement}
use Rattle.node_rope.proofs.pile.Pile.new.Code as code

pub new_spec : {M : Type 1} → statement M
new_spec 𝓤 𝓛 𝓜 𝓡 wired T A L LA g d dd allocator glued =
    let H = 𝓛.H in
    let 𝓣 = tables 𝓤 H 𝓜 𝓡 𝓡.env in
    let Row : RattleType = pile.the_row (param 0 T) (param 1 A) g in
    let En = ended T A g d dd in
    let inst = bounded (a_type ∷ a_type ∷ []) (T, (A, tt)) (dcons d (dcons dd dnil)) in
    let fn = inst_fn inst code.function in
    let c = clauses T A g d dd 𝓛 𝓜.mem 𝓡.returns in
    let hs : Stays En.signature.params En.kept = tt in
    proved_at 𝓛 En hs c 𝓜 𝓡 tt (#self inst) fn (code.unfolded 𝓤 H 𝓜 𝓡 wired (T, (A, tt)) d dd) (λ z are.
    let κs = z.0.0 in let qs = z.0.1 in
    let Post : Val → SProp 𝓤 = (walk_of 𝓛 En hs c).post z in
    let t₀ = ‵ (flft κs.0 qs.0) in let t₁ = ‵ (flft κs.1.0 qs.1.0) in
    let mark : PhantomData (Box T.Denot A.Denot) = record {} in
    let v : Val = vstruct (vcons (vstruct vnil) vnil) in
    let none : Row.Denot = record { kind = mark; values = []; moorings = []; paired = refl } in
    let F : Fml = (Struct (shape (pile.the_type (param 0 T) (param 1 A) g))).own_val (tt, tt) (v ∷ []) in
    let Values : Type 0 = none.values ≡ [] in
    let Moorings : Type 0 = none.moorings ≡ [] in
    qed 𝓛 (((t₀ ⊛ t₁ ⊛ ‵ ftrue) ⊛ ‵ ftrue) ∷ raw ((c κs z.0.3).requires z.1) ∷ []) ∵ split ! $
    enter ! 𝓣.C 𝓣.Λ fn [] Post $ alloc_all ! (λ l. pass_all ! refl tt $
    sets ! (agg ! (no_more !)) refl (tt, tt) $ sets ! (agg ! (and_then ! (get ! refl) (no_more !))) refl (tt, (tt, tt)) $
    returns ! (look_at ! 0 refl) $ free_all ! refl $ keep ! (1 ∷ 0 ∷ []) $ nothing ! $
    use0 𝓛 (‵ F) (makes_shadow 𝓛 F (λ vss. (tt, ((λ uss. (tt, tt)), tt))) ((vstruct vnil ∷ [], tt), (refl, ((tt, (refl, tt)), tt)))) $ fjoin ! $
    use0 𝓛 (raw (fact 𝓤 Moorings)) (fact_i 𝓤 Moorings (emp 𝓤) refl) $ use0 𝓛 (raw (fact 𝓤 Values)) (fact_i 𝓤 Values (emp 𝓤) refl) $ join ! $
    keep ! (3 ∷ 2 ∷ 1 ∷ 0 ∷ []) $ by ! (leaves 𝓛 En hs c z v none tt tt)))
