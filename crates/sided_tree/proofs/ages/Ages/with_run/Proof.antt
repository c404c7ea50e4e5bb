-- `with_run` makes no bytes, at the list with those of the run.
use Rattle.sided_tree.proofs.Words.{[], ◌∷◌, refl, named, Val, vptr, vstruct, vnil, tables, raw, ‵, ◌⊛◌, ◌$◌, ◌∵◌, !, qed, move, keep, split, suffices, done, agg, enter, returns}
use Rattle.sided_tree.proofs.Words.{no_more, alloc_all, pass_all, free_all, look_at, sets, yes, owns, shr_vals, shr_Tells, pure_i, plain, types_at, alive, says, Stays}
use Rattle.sided_tree.proofs.Words.{stay_none_ref, Goes-none_ref, walk_of, ends_at, proved, Ages, the_row}
use Rattle.sided_tree.specs.Rows.{run_nodes}
use Rattle.sided_tree.specs.contracts.ages.NodeRun as run
use Rattle.sided_tree.specs.contracts.ages.Ages.with_run as f
use Rattle.sided_tree.specs.contracts.ages.Ages.with_run.Key.{name}
use Rattle.sided_tree.proofs.ages.Ages.with_run.Statement.{statement}
use Rattle.sided_tree.proofs.ages.Ages.with_run.Code as code

abbrev stayed : Stays f.ended.signature.params f.ended.kept
stayed = (stay_none_ref (0 ∷ []) tt (plain (λ _. the_row)) yes, (stay_none_ref (1 ∷ []) tt (plain (λ _. run.the_row)) yes, tt))

pub with_run_spec : {M : Type 1} → statement M
with_run_spec 𝓤 𝓛 𝓜 𝓡 wired =
    let c = f.clauses 𝓛 𝓜.mem 𝓡.returns in let W = walk_of 𝓛 f.ended stayed c in let 𝓣 = tables 𝓤 𝓛.H 𝓜 𝓡 𝓡.env in
    proved 𝓛 f.ended stayed c 𝓜 𝓡 (Goes-none_ref 𝓛 2 (0 ∷ []) tt (plain (λ _. the_row)) yes, (Goes-none_ref 𝓛 2 (1 ∷ []) tt (plain (λ _. run.the_row)) yes, tt))
    name code.function (code.unfolded 𝓤 𝓛.H 𝓜 𝓡 wired) (λ κs. (shr_vals, (shr_vals, tt)))
    (λ κs. (shr_Tells (named 0) κs.0 the_row, (shr_Tells (named 1) κs.1.0 run.the_row, tt))) (λ κs qs bounds a g are.
    let u : Val = vptr a.0.ref_ptr.0 a.0.ref_ptr.1 in
    let v : Val = vptr a.1.0.ref_ptr.0 a.1.0.ref_ptr.1 in
    let y : W.Ghost = ((κs, qs, bounds, a, (u ∷ [], (v ∷ [], tt))), g) in
    let made : Ages = record { nodes = run_nodes a.1.0.now.first a.1.0.now.count a.0.now.nodes } in
    qed 𝓛 ((raw (alive 𝓛 f.signature κs qs) ⊛ ‵ (owns (types_at f.signature.params κs) a (u ∷ [], (v ∷ [], tt)))) ∷ raw ((c κs a).requires g) ∷ []) ∵ keep ! (0 ∷ []) $ split ! $
    enter ! 𝓣.C 𝓣.Λ code.function (u ∷ v ∷ []) _ $ alloc_all ! (λ l. pass_all ! refl ((tt, tt), ((tt, tt), tt)) $ sets ! (agg ! (no_more !)) refl (tt, tt) $
    returns ! (look_at ! 0 refl) $ free_all ! refl $
    suffices ! _ (ends_at 𝓛 f.ended stayed c y (vstruct vnil) made (tt, (tt, tt)) (tt, (tt, tt))) $ says ! refl $
    pure_i ! (the_row.own_val made (vstruct vnil ∷ [])) ((λ vss. (tt, tt)), tt) ((tt, (refl, tt)), tt) $ move ! (1 ∷ 2 ∷ 0 ∷ []) $ done !))
