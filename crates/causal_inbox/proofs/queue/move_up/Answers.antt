use Rattle.std.proofs.Common.{ap, arith, ◌≡◌, ◌∙◌, ◌+◌, ◌-◌, ◌++◌, ◌∷◌, drop, take, set, length, ℕ, length-drop}
use Rattle.std.proofs.lemmas.List.{length-take-le, take-take}
use Rattle.causal_inbox.proofs.QueueLemmas.{moved_after, replaced_front}
use Rattle.causal_inbox.proofs.queue.move_up.Goals as goal

pub returns-clause-rest : goal.returns-clause-rest
returns-clause-rest g c =
    let xs = c.args.items.now in
    let first : ℕ = c.args.first in
    let p : ℕ = c.args.position in
    let count : first + p + 1 - first ≡ p + 1 = omega arith in
    let long : length (take (first + p + 1 - first) (drop first xs)) ≡ p + 1 =
    length-take-le (first + p + 1 - first) (drop first xs) (omega (arith, length-drop first xs, c.requires)) ∙ count in
    let moved : set c.rotate_right.new.self 0 c.replace.new.dest ≡ c.args.filler ∷ take p (drop first xs) =
    ap (set c.rotate_right.new.self 0) c.replace.ensures.after
    ∙ replaced_front (take (first + p + 1 - first) (drop first xs)) c.rotate_right.new.self p c.args.filler long c.rotate_right.ensures.after
    ∙ ap (λ l. c.args.filler ∷ l) (take-take p (first + p + 1 - first) (drop first xs) (omega arith)) in
    ap (λ n. drop (first + 1) (take first xs ++ (set c.rotate_right.new.self 0 c.replace.new.dest ++ drop n (drop first xs)))) count
    ∙ moved_after xs (set c.rotate_right.new.self 0 c.replace.new.dest) first p c.args.filler c.requires moved
