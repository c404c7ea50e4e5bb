-- Texts: pieces are read as their bytes joined, a frame is taken at its last byte, and bytes after the one that closes
-- a session count for nothing.
use Rattle.origin_model.proofs.Words.{List, Some, [], ap, append-nil, append_assoc, arith, length, refl, subst, sym, ℕ, ◌++◌, ◌<◌, ◌^◌, ◌∙◌, ◌∷◌, ◌≡◌}
use Rattle.std.proofs.lemmas.Nat.{from_be_bytes-to_be_bytes_4}
use Rattle.std.specs.Int.{byte_at, to_be_bytes, w32}
use Rattle.origin_model.specs.declared.grammar.Grammar.TheVariants.{Version2}
use Rattle.origin_model.specs.frames.Frames.{Framed, IsFrame, IsPartial}
use Rattle.origin_model.specs.relay.Session.{Closes, Closing, Frame, Front, Goes, Taken, TakesAll, reply_from, at_cursor, closing, greeting_read, greeting, log_joined, unread}
use Rattle.origin_model.proofs.frames.LengthLemmas.{frame_wide}

-- bytes that come one after the other are read as the bytes joined
pub takes-append : (limit : ℕ) (xs ys : List ℕ) (a b c : Taken) → TakesAll limit xs a b → TakesAll limit ys b c → TakesAll limit (xs ++ ys) a c
takes-append limit [] ys a b c h i = subst (λ t. TakesAll limit ys t c) h i
takes-append limit (x ∷ xs) ys a b c h i = (h.0, h.1, takes-append limit xs ys h.0 b c h.2 i)

-- bytes of a closed session count for nothing
pub closed_takes : (limit : ℕ) (bytes : List ℕ) (log : List (List ℕ)) (reply : List ℕ)
    → TakesAll limit bytes (record { log = log; next = Closes reply }) (record { log = log; next = Closes reply })
closed_takes limit [] log reply = refl
closed_takes limit (byte ∷ bytes) log reply = (record { log = log; next = Closes reply }, refl, closed_takes limit bytes log reply)

-- a session after a cursor, with these bytes of a message
abbrev pub partly : List (List ℕ) → ℕ → List ℕ → Taken
partly log cursor rest = record { log = log; next = Goes (record { cursor = Some cursor; rest = rest }) }

module _ (framed : Framed) (is : IsFrame Version2 framed) where
  -- bytes with more after them in a frame
  pub front_of : (xs : List ℕ) (y : ℕ) (ys : List ℕ) → framed.bytes ≡ xs ++ y ∷ ys → IsPartial Version2 xs
  front_of xs y ys e = record { framed = framed; is_frame = is; more = y ∷ ys; lacks = omega arith; front = e }

  module _ (limit cursor : ℕ) (log : List (List ℕ)) where
    -- bytes within a frame change nothing yet
    pub front_takes : (xs ys : List ℕ) (z : ℕ) (zs : List ℕ) → framed.bytes ≡ xs ++ (ys ++ z ∷ zs) → TakesAll limit ys (partly log cursor xs) (partly log cursor (xs ++ ys))
    front_takes xs [] z zs e = ap (partly log cursor) (append-nil xs)
    front_takes xs (y ∷ ys) z zs e =
        let split : framed.bytes ≡ (xs ++ y ∷ []) ++ (ys ++ z ∷ zs) = e ∙ sym (append_assoc xs (y ∷ []) (ys ++ z ∷ zs)) in (
          partly log cursor (xs ++ y ∷ []),
          (Front, next_front (xs ++ y ∷ []) ys z zs split, refl),
          subst (λ r. TakesAll limit ys (partly log cursor (xs ++ y ∷ [])) (partly log cursor r)) (append_assoc xs (y ∷ []) ys) (front_takes (xs ++ y ∷ []) ys z zs split),
        )
      where
        next_front : (xs ys : List ℕ) (z : ℕ) (zs : List ℕ) → framed.bytes ≡ xs ++ (ys ++ z ∷ zs) → IsPartial Version2 xs
        next_front xs [] z zs e = front_of xs z zs e
        next_front xs (y ∷ ys) z zs e = front_of xs y (ys ++ z ∷ zs) e

    -- the bytes y and ys, after the bytes xs of a frame, end it
    pub rest_takes : (ys xs : List ℕ) (y : ℕ) → framed.bytes ≡ xs ++ y ∷ ys → TakesAll limit (y ∷ ys) (partly log cursor xs) (log_joined limit log cursor framed.ops)
    rest_takes [] xs y e = (
      log_joined limit log cursor framed.ops,
      (Frame framed.ops, record { item = is.item; is_item = is.is_item; bytes_are = sym e ∙ is.bytes_are; ops_are = is.ops_are }, refl),
      refl,
    )
    rest_takes (z ∷ zs) xs y e =
        let split : framed.bytes ≡ (xs ++ y ∷ []) ++ z ∷ zs = e ∙ sym (append_assoc xs (y ∷ []) (z ∷ zs)) in
        (partly log cursor (xs ++ y ∷ []), (Front, front_of (xs ++ y ∷ []) z zs split, refl), rest_takes zs (xs ++ y ∷ []) z split)

    -- a frame that comes after a whole message is taken at its last byte
    pub frame_takes : TakesAll limit framed.bytes (partly log cursor []) (log_joined limit log cursor framed.ops)
    frame_takes = by framed.bytes refl
      where
        by : (bytes : List ℕ) → framed.bytes ≡ bytes → TakesAll limit bytes (partly log cursor []) (log_joined limit log cursor framed.ops)
        by [] none = absurd (omega (arith, ap length none, frame_wide Version2 framed is))
        by (y ∷ ys) e = rest_takes ys [] y e

-- 48 and a cursor
abbrev pub hello : ℕ → List ℕ
hello cursor = greeting ∷ to_be_bytes w32 cursor

-- the cursor is read at its fourth byte
pub hello_takes : (limit : ℕ) (log : List (List ℕ)) (cursor : ℕ) → cursor < 2 ^ 32 → TakesAll limit (hello cursor) (record { log = log; next = Goes unread }) (at_cursor log cursor)
hello_takes limit log cursor fits =
    let b : ℕ → ℕ = λ k. byte_at k cursor in (
      greeting_read log (greeting ∷ []),
      refl,
      (
        greeting_read log (greeting ∷ b 3 ∷ []),
        refl,
        (
          greeting_read log (greeting ∷ b 3 ∷ b 2 ∷ []),
          refl,
          (greeting_read log (greeting ∷ b 3 ∷ b 2 ∷ b 1 ∷ []), refl, (at_cursor log cursor, ap (at_cursor log) (sym (from_be_bytes-to_be_bytes_4 cursor fits)), refl)),
        ),
      ),
    )

-- the closing byte after a whole message is answered
pub closing_takes : (limit cursor : ℕ) (log : List (List ℕ)) → TakesAll limit closing (partly log cursor []) (record { log = log; next = Closes (reply_from log cursor) })
closing_takes limit cursor log = (record { log = log; next = Closes (reply_from log cursor) }, (Closing, refl, refl), refl)
