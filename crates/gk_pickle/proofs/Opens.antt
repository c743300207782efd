-- The `<` that may open a placeholder, in what is written.
use Rattle.std.proofs.Common.{◌≡◌, ℕ, ◌+◌, ◌-◌, ◌<◌, ◌≤◌, List, [], ◌∷◌, ◌++◌, length, take, get_or, slice_get, Some, set, max, reverse, length-take-le, refl, sym, ap, ◌∙◌, subst, arith, length-append}
use Rattle.std.proofs.lemmas.List.{take_at, take_more, take_all, set_at, reverse-append, get_or_append_left, take-append-le}
use Rattle.std.proofs.lemmas.Option.{slice_get-get_or, get_or_from_slice_get}
use Rattle.std.proofs.Math.Seq.{get_or-append_seam}
use Rattle.std.proofs.lemmas.Str.{IsCharBoundary-after_ascii}
use Rattle.std.specs.Str.{IsUtf8, IsCharBoundary}
use Rattle.gk_pickle.specs.declared.filling.Open.{Open}
use Rattle.gk_pickle.specs.SinglePass.{raised_opens, AreOpenIn}

-- the last one, set
pub last_raised : (xs : List Open) (o : Open) (n m done : ℕ) → n ≡ length xs → 0 < n → o ≡ get_or xs (n - 1) o → m ≡ max o.done done
    → reverse (set xs (n - 1) (record { start = o.start; done = m })) ≡ raised_opens done (reverse xs)
last_raised xs o n m done same some at e =
    let front : List Open = take (n - 1) xs in
    let new : Open = record { start = o.start; done = m } in
    let long : length front ≡ n - 1 = length-take-le (n - 1) xs (omega arith) in
    let all : n - 1 + 1 ≡ length xs = omega arith in
    let whole : xs ≡ front ++ o ∷ [] =
    sym (take_all (length xs) xs (omega arith)) ∙ ap (λ k. take k xs) (sym all) ∙ take_more xs (n - 1) o (omega arith) ∙ ap (λ x. front ++ x ∷ []) (sym at) in
    ap (λ ys. reverse (set ys (n - 1) new)) whole ∙ ap reverse (set_at front o [] new (n - 1) long) ∙ reverse-append front (new ∷ [])
    ∙ ap (λ k. record { start = o.start; done = k } ∷ reverse front) e
    ∙ ap (raised_opens done) (sym (ap reverse whole ∙ reverse-append front (o ∷ [])))

-- more is written after it
pub stand_more : (out more : List ℕ) (os : List Open) → AreOpenIn out os → AreOpenIn (out ++ more) os
stand_more out more [] h = tt
stand_more out more (o ∷ os) h =
    let long = length-append out more in
    let here : slice_get (out ++ more) o.start ≡ Some 60 =
    slice_get-get_or (out ++ more) o.start 0 (omega (arith, h.0)) ∙ ap Some (get_or_append_left out more 0 o.start h.0 ∙ get_or_from_slice_get out o.start 60 0 h.1) in
    let P : List ℕ → Type 0 = λ t. AreOpenIn t os in
    (omega (arith, h.0), here, subst P (sym (take-append-le o.start out more (omega (arith, h.0)))) h.2)

pub stand_added : (old new more : List ℕ) (os : List Open) → new ≡ old ++ more → AreOpenIn old os → AreOpenIn new os
stand_added old new more os e h = rw e (stand_more old more os h)

pub stand_kept : (old new more : List ℕ) (items all : List Open) → new ≡ old ++ more → all ≡ items → AreOpenIn old (reverse items) → AreOpenIn new (reverse all)
stand_kept old new more items all e a h = rw (e, a) (stand_more old more (reverse items) h)

-- a `<` is written, and may open a placeholder
pub stand_opened : (old new : List ℕ) (items all : List Open) (o : Open) → new ≡ old ++ 60 ∷ [] → all ≡ items ++ o ∷ [] → o.start ≡ length old
    → AreOpenIn old (reverse items) → AreOpenIn new (reverse all)
stand_opened old new items all o e a same h =
    let long = length-append old (60 ∷ []) in
    let Q : List Open → Type 0 = AreOpenIn (old ++ 60 ∷ []) in
    let within : o.start < length (old ++ 60 ∷ []) = omega (arith, same) in
    let here : slice_get (old ++ 60 ∷ []) o.start ≡ Some 60 =
    slice_get-get_or (old ++ 60 ∷ []) o.start 0 within ∙ ap Some (ap (λ n. get_or (old ++ 60 ∷ []) n 0) same ∙ get_or-append_seam old 60 [] 0) in
    let P : List ℕ → Type 0 = λ t. AreOpenIn t (reverse items) in
    let front : take o.start (old ++ 60 ∷ []) ≡ old = ap (λ n. take n (old ++ 60 ∷ [])) same ∙ take_at old (60 ∷ []) (length old) refl in
    rw e (subst Q (sym (ap reverse a ∙ reverse-append items (o ∷ []))) (within, here, subst P (sym front) h))

-- the last one, taken off
pub popped : (out : List ℕ) (items rest : List Open) (o : Open) → items ≡ rest ++ o ∷ [] → AreOpenIn out (reverse items) → AreOpenIn out (o ∷ reverse rest)
popped out items rest o e h = let P : List Open → Type 0 = AreOpenIn out in subst P (ap reverse e ∙ reverse-append rest (o ∷ [])) h

-- what comes after a `<` is cut off at a character
pub cut_past : (out text : List ℕ) (o : Open) (os : List Open) → text ≡ out → IsUtf8 text → AreOpenIn out (o ∷ os) → IsCharBoundary text (o.start + 1)
cut_past out text o os e u h =
    let byte : get_or text o.start 0 ≡ 60 = ap (λ t. get_or t o.start 0) e ∙ get_or_from_slice_get out o.start 60 0 h.1 in
    IsCharBoundary-after_ascii text o.start u (omega (arith, ap length e, h.0)) (omega arith)

-- and where it begins, the text is cut at a character too
pub starts_plain : (out : List ℕ) (o : Open) (os : List Open) → AreOpenIn out (o ∷ os) → (o.start ≤ length out) × (128 ≤ get_or out o.start 0 → 192 ≤ get_or out o.start 0)
starts_plain out o os h =
    let byte : get_or out o.start 0 ≡ 60 = get_or_from_slice_get out o.start 60 0 h.1 in
    (omega (arith, h.0), λ high. omega (arith, byte, high))
