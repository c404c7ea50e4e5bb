-- A piece that comes in two parts: the relay ends as after the whole piece, and the reply to the whole comes with one of the parts.
use Rattle.origin_model.proofs.Words.{Bool, List, None, Option, Some, [], ap, cond, false, inl, inr, refl, subst, sym, true, ℕ, ◌++◌, ◌∙◌, ◌∷◌, ◌≡◌, ◌⊎◌}
use Rattle.std.specs.Cmp.{eq_by_cmp_equiv, nat_cmp_total}
use Rattle.std.specs.FinMap as finite
use Rattle.std.specs.FinMap.{get-insert, get-remove, gets, nat_cmp-IsAntisymmetric, same_map}
use Rattle.origin_model.specs.declared.relay.Event.TheVariants.{Piece}
use Rattle.origin_model.specs.declared.relay.Reply.{Reply}
use Rattle.origin_model.specs.relay.Relay.{Relay, Sessions, RelaySteps, StepsPiece, TakesPiece, reply_of, sessions_after}
use Rattle.origin_model.specs.relay.Session.{Closes, Goes, Next, SessionReading, Taken, TakesAll}
use Rattle.origin_model.proofs.relay.RunLemmas.{after_piece, piece_steps, unknown_steps}

-- what is read of bytes is read of a front of them, and then of the rest
takes_split : (limit : ℕ) (xs ys : List ℕ) (a c : Taken) → TakesAll limit (xs ++ ys) a c → (b : Taken) × TakesAll limit xs a b × TakesAll limit ys b c
takes_split limit [] ys a c h = (a, refl, h)
takes_split limit (x ∷ xs) ys a c h = let rest = takes_split limit xs ys h.0 c h.2 in (rest.0, (h.0, h.1, rest.1), rest.2)

-- a closed session stays as it is
closed_stays : (limit : ℕ) (bytes : List ℕ) (log : List (List ℕ)) (reply : List ℕ) (after : Taken) → TakesAll limit bytes (record { log = log; next = Closes reply }) after
    → after ≡ record { log = log; next = Closes reply }
closed_stays limit [] log reply after h = h
closed_stays limit (byte ∷ bytes) log reply after h = closed_stays limit bytes log reply after (subst (λ t. TakesAll limit bytes t after) h.1 h.2)

-- under one test twice, the second time makes no difference
nested : {T : Type 0} (e : Bool) (x y z : T) → cond e x (cond e y z) ≡ cond e x z
nested true x y z = refl
nested false x y z = refl

-- a session that is set anew, or removed, is as if it had not been set before
insert_again : (sessions : Sessions) (n : ℕ) (a b : SessionReading) → finite.insert (finite.insert sessions n a) n b ≡ finite.insert sessions n b
insert_again sessions n a b =
    same_map nat_cmp_total nat_cmp-IsAntisymmetric (finite.insert (finite.insert sessions n a) n b) (finite.insert sessions n b)
    (λ q. simp gets (nested _ (Some b) (Some a) (finite.get sessions q)))

remove_set : (sessions : Sessions) (n : ℕ) (a : SessionReading) → finite.remove (finite.insert sessions n a) n ≡ finite.remove sessions n
remove_set sessions n a =
    same_map nat_cmp_total nat_cmp-IsAntisymmetric (finite.remove (finite.insert sessions n a) n) (finite.remove sessions n)
    (λ q. simp gets (nested _ None (Some a) (finite.get sessions q)))

found_again : (sessions : Sessions) (n : ℕ) (a : SessionReading) → finite.get (finite.insert sessions n a) n ≡ Some a
found_again sessions n a = get-insert nat_cmp_total sessions n a n ∙ ap (λ e. cond e (Some a) (finite.get sessions n)) ((eq_by_cmp_equiv nat_cmp_total).refl n)

none_left : (sessions : Sessions) (n : ℕ) → finite.get (finite.remove sessions n) n ≡ None
none_left sessions n = get-remove nat_cmp_total sessions n n ∙ ap (λ e. cond e None (finite.get sessions n)) ((eq_by_cmp_equiv nat_cmp_total).refl n)

after_again : (sessions : Sessions) (n : ℕ) (a : SessionReading) (next : Next) → sessions_after n (finite.insert sessions n a) next ≡ sessions_after n sessions next
after_again sessions n a (Goes b) = insert_again sessions n a b
after_again sessions n a (Closes reply) = remove_set sessions n a

-- both parts of a piece, one after the other
pub record InParts (old : Relay) (n : ℕ) (xs ys : List ℕ) (new : Relay) (reply : Option Reply) : Type 0 where
  pub middle : Relay
  pub first : Option Reply
  pub second : Option Reply
  pub begins : RelaySteps old (Piece n xs) middle first
  pub goes_on : RelaySteps middle (Piece n ys) new second
  pub one : ((first ≡ reply) × (second ≡ None)) ⊎ ((first ≡ None) × (second ≡ reply))

-- of an open session
open_in_parts : (old : Relay) (n : ℕ) (xs ys : List ℕ) (new : Relay) (reply : Option Reply) (reading : SessionReading) → finite.get old.sessions n ≡ Some reading
    → TakesPiece old n reading (xs ++ ys) new reply → InParts old n xs ys new reply
open_in_parts old n xs ys new reply reading found h =
    let split = takes_split old.limit xs ys (record { log = old.log; next = Goes reading }) h.taken h.takes in
    by split.0.log split.0.next split.1 split.2
  where
    by : (log : List (List ℕ)) (next : Next) → TakesAll old.limit xs (record { log = old.log; next = Goes reading }) (record { log = log; next = next })
        → TakesAll old.limit ys (record { log = log; next = next }) h.taken → InParts old n xs ys new reply
    by log (Goes r) a b =
        let middle : Relay = after_piece old n (record { log = log; next = Goes r }) in
        let same : after_piece middle n h.taken ≡ new
        = ap (λ (s : Sessions). record { limit = old.limit; log = h.taken.log; sessions = s }) (after_again old.sessions n r h.taken.next) ∙ sym h.new_is in
        record {
          middle = middle;
          first = None;
          second = reply_of n h.taken.next;
          begins = piece_steps old n reading xs (record { log = log; next = Goes r }) found a;
          goes_on = subst (λ (new : Relay). RelaySteps middle (Piece n ys) new (reply_of n h.taken.next)) same (piece_steps middle n r ys h.taken (found_again old.sessions n r) b);
          one = inr (refl, sym h.reply_is);
        }
    by log (Closes bytes) a b =
        let closed : Taken = record { log = log; next = Closes bytes } in
        let middle : Relay = after_piece old n closed in
        let is : h.taken ≡ closed = closed_stays old.limit ys log bytes h.taken b in
        let same : middle ≡ new = ap (after_piece old n) (sym is) ∙ sym h.new_is in
        record {
          middle = middle;
          first = reply_of n (Closes bytes);
          second = None;
          begins = piece_steps old n reading xs closed found a;
          goes_on = subst (λ (new : Relay). RelaySteps middle (Piece n ys) new None) same (unknown_steps middle n ys (none_left old.sessions n));
          one = inl (ap (λ (t : Taken). reply_of n t.next) (sym is) ∙ sym h.reply_is, refl);
        }

-- a piece in two parts
pub in_parts : (old : Relay) (n : ℕ) (xs ys : List ℕ) (new : Relay) (reply : Option Reply) → RelaySteps old (Piece n (xs ++ ys)) new reply → InParts old n xs ys new reply
in_parts old n xs ys new reply h = by (finite.get old.sessions n) refl h
  where
    by : (found : Option SessionReading) → finite.get old.sessions n ≡ found → StepsPiece old n found (xs ++ ys) new reply → InParts old n xs ys new reply
    by None found h = record {
      middle = old;
      first = None;
      second = None;
      begins = unknown_steps old n xs found;
      goes_on = subst (λ (r : Relay). RelaySteps old (Piece n ys) r None) (sym h.0) (unknown_steps old n ys found);
      one = inl (sym h.1, refl);
    }
    by (Some reading) found h = open_in_parts old n xs ys new reply reading found h
