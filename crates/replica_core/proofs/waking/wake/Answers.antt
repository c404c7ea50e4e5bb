use Rattle.std.proofs.Common.{◌≡◌, sym, ◌∙◌, ap, refl, arith, ℕ, ◌+◌, List, [], Bool, length, drop}
use Rattle.std.specs.Prelude.{Option, None, Some, set}
use Rattle.std.proofs.lemmas.List.{drop_all, length-map, length-set}
use Rattle.fugue_ids.specs.Identifiers.{Identifier}
use Rattle.fugue_ids.specs.declared.op.Op.{Op}
use Rattle.origin_model.specs.taking.Taking.{is_decided, decided_on}
use Rattle.causal_inbox.specs.Naming.{naming}
use Rattle.replica_core.specs.Due.{due_marks}
use Rattle.replica_core.proofs.WakeLemmas.{all_tried, unwoken_right, woken_right, naming_within, few_naming, drop-none, next_tried}
use Rattle.replica_core.proofs.waking.wake.Goals as goal

none_from : (o : Option Identifier) → ((i : Identifier) → o ≡ Some i → ⊥) → o ≡ None
none_from None other = refl
none_from (Some i) other = absurd (other i refl)

pub returns-in_default : goal.returns-in_default
returns-in_default c =
    c.requires.marks ∙ unwoken_right c.args.accepted.now c.args.inbox.now.ops
    (sym c.newest_id.ensures ∙ none_from c.newest_id.result c.in_default.not-Some) c.requires.once c.requires.own_ids

pub loop-k-init : goal.loop-k-init
loop-k-init c =
    let w : List Op = c.args.inbox.now.ops in
    record {
      right = woken_right c.args.accepted.now w c.args.due.now c.in-Some.id (sym c.newest_id.ensures ∙ c.in-Some.is) c.requires.marks c.requires.once c.requires.own_ids;
      same_length = ap length c.requires.marks ∙ length-map w (decided_on (drop 1 c.args.accepted.now));
    }

-- past the last position all marks are right
ended : (h w : List Op) (i : Identifier) (k : ℕ) (marks : List Bool) → drop k (naming i w) ≡ []
    → all_tried (decided_on h) w (drop k (naming i w)) marks ≡ due_marks h w → marks ≡ due_marks h w
ended h w i k marks none right = sym (ap (λ (l : List ℕ). all_tried (decided_on h) w l marks) none) ∙ right

pub returns-in_default-nth_naming : goal.returns-in_default-nth_naming
returns-in_default-nth_naming c =
    let positions : List ℕ = naming c.in-Some.id c.args.inbox.now.ops in
    ended c.args.accepted.now c.args.inbox.now.ops c.in-Some.id c.loop-k.k c.loop-k.due
    (drop-none positions c.loop-k.k (sym c.nth_naming.ensures ∙ c.in_default-nth_naming.is)) c.loop-k.invariant.right

pub op_at-requires : goal.op_at-requires
op_at-requires c = naming_within c.in-Some.id c.args.inbox.now.ops c.loop-k.k c.in-Some-nth_naming.position (sym c.nth_naming.ensures ∙ c.in-Some-nth_naming.is)

pub put-requires : goal.put-requires
put-requires c =
    let below = naming_within c.in-Some.id c.args.inbox.now.ops c.loop-k.k c.in-Some-nth_naming.position (sym c.nth_naming.ensures ∙ c.in-Some-nth_naming.is) in
    omega (arith, below, c.loop-k.invariant.same_length)

pub loop-k-preserved : goal.loop-k-preserved
loop-k-preserved c =
    let h : List Op = c.args.accepted.now in
    let w : List Op = c.args.inbox.now.ops in
    let p : ℕ = c.in-Some-nth_naming.position in
    let op : Op = c.op_at.result.now in
    let positions : List ℕ = naming c.in-Some.id w in
    let decided : c.is_decided.result ≡ decided_on h op = c.is_decided.ensures ∙ ap is_decided c.verdict.ensures in
    let put : c.put.new.self ≡ set c.loop-k.due p (decided_on h op) = c.put.ensures ∙ ap (set c.loop-k.due p) decided in
    record {
      right = ap (all_tried (decided_on h) w (drop (c.loop-k.k + 1) positions)) put
          ∙ sym (next_tried (decided_on h) w positions c.loop-k.k p c.loop-k.due op (sym c.nth_naming.ensures ∙ c.in-Some-nth_naming.is) c.op_at.ensures)
          ∙ c.loop-k.invariant.right;
      same_length = ap length put ∙ length-set c.loop-k.due p (decided_on h op) ∙ c.loop-k.invariant.same_length;
    }

pub returns : goal.returns
returns c =
    let positions : List ℕ = naming c.in-Some.id c.args.inbox.now.ops in
    ended c.args.accepted.now c.args.inbox.now.ops c.in-Some.id c.loop-k.k c.loop-k.due
    (drop_all c.loop-k.k positions (omega (arith, few_naming c.in-Some.id c.args.inbox.now.ops, c.len-k-end.ensures))) c.loop-k.invariant.right
