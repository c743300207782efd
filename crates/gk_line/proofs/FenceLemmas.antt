-- A doc string line, read from one backslash to the next.
use Rattle.std.proofs.Common.{◌≡◌, ◌≤◌, ◌+◌, ℕ, suc, List, [], ◌∷◌, ◌++◌, length, Some, None, sym, refl, ap, ◌∙◌, arith}
use Rattle.std.specs.Prelude.{◌==◌, is_some, if◌then◌else◌}
use Rattle.std.specs.Str.{chars, IsUtf8, NonePass}
use Rattle.std.proofs.lemmas.List.{append_assoc, append-nil, length-append}
use Rattle.std.proofs.lemmas.Str.{chars-append, chars-IsAscii}
use Rattle.gk_line.specs.Characters.{backslash}
use Rattle.gk_line.specs.Texts.{after, IsCutAt}
use Rattle.gk_document.specs.Fences.{fence_mark, fence_characters}
use Rattle.gk_line.specs.DocStrings.{fences_unescaped, escaped_mark}
use Rattle.gk_document.specs.declared.tree.Fence.{Fence}
use Rattle.gk_document.specs.declared.tree.Fence.TheVariants.{Quotes, Backticks}
use Rattle.gk_line.proofs.TextLemmas.{after-some, ascii_bytes}

fence_step : (fence : Fence) (rest : List ℕ) → fences_unescaped (fence_mark fence) 0 (escaped_mark (fence_mark fence) ++ rest) ≡ fence_characters fence ++ fences_unescaped (fence_mark fence) 0 rest
unfolding after
fence_step Quotes rest = refl
fence_step Backticks rest = refl

mark_chars : (fence : Fence) → chars (fence_characters fence) ≡ fence_characters fence
mark_chars Quotes = chars-IsAscii _ (ascii_bytes (fence_characters Quotes) refl)
mark_chars Backticks = chars-IsAscii _ (ascii_bytes (fence_characters Backticks) refl)

-- text without a backslash stays
front_step : (mark : ℕ) (front rest : List ℕ) → NonePass (λ c. c == backslash) front → fences_unescaped mark 0 (front ++ rest) ≡ front ++ fences_unescaped mark 0 rest
unfolding after
front_step mark [] rest h = refl
front_step mark (c ∷ front) rest h = rw (h.0, front_step mark front rest h.1) refl

-- a backslash that begins an escaped fence
pub escaped_step : (fence : Fence) (tail next rest : List ℕ) → backslash ∷ tail ≡ escaped_mark (fence_mark fence) → Some rest ≡ after tail next → fences_unescaped (fence_mark fence) 0 (backslash ∷ next) ≡ fence_characters fence ++ fences_unescaped (fence_mark fence) 0 rest
escaped_step fence tail next rest is some =
    ap (λ q. fences_unescaped (fence_mark fence) 0 (backslash ∷ q)) (after-some tail next rest (sym some))
    ∙ ap (λ q. fences_unescaped (fence_mark fence) 0 (q ++ rest)) is ∙ fence_step fence rest

-- a backslash by itself
pub alone_step : (mark : ℕ) (tail next : List ℕ) → backslash ∷ tail ≡ escaped_mark mark → None ≡ after tail next → fences_unescaped mark 0 (backslash ∷ next) ≡ backslash ∷ fences_unescaped mark 0 next
unfolding after
alone_step mark tail next is none =
    let other : None ≡ after (escaped_mark mark) (backslash ∷ next) = none ∙ ap (λ q. after q (backslash ∷ next)) is in
    ap (λ o. if is_some o then mark ∷ mark ∷ mark ∷ fences_unescaped mark 5 next else backslash ∷ fences_unescaped mark 0 next) (sym other)

-- past a backslash, which a piece replaces
pub turn : (mark : ℕ) (old mid new piece text front next rest whole : List ℕ) → IsUtf8 old → mid ≡ old ++ front → chars new ≡ chars mid ++ piece → IsCutAt backslash (chars text) (chars front) next → fences_unescaped mark 0 (backslash ∷ next) ≡ piece ++ fences_unescaped mark 0 rest → chars old ++ fences_unescaped mark 0 (chars text) ≡ whole → chars new ++ fences_unescaped mark 0 rest ≡ whole
turn mark old mid new piece text front next rest whole u is_mid is_new cut step inv =
    let later = fences_unescaped mark 0 rest in
    let grown : chars new ≡ (chars old ++ chars front) ++ piece = is_new ∙ ap (λ q. q ++ piece) (ap chars is_mid ∙ chars-append old front u) in
    let read : fences_unescaped mark 0 (chars text) ≡ chars front ++ (piece ++ later) =
    ap (fences_unescaped mark 0) cut.parts ∙ front_step mark (chars front) (backslash ∷ next) cut.first ∙ ap (λ q. chars front ++ q) step in
    ap (λ q. q ++ later) grown ∙ append_assoc (chars old ++ chars front) piece later ∙ append_assoc (chars old) (chars front) (piece ++ later)
    ∙ ap (λ q. chars old ++ q) (sym read) ∙ inv

-- a fence was added
pub fence_added : (fence : Fence) (mid new : List ℕ) → IsUtf8 mid → new ≡ mid ++ fence_characters fence → chars new ≡ chars mid ++ fence_characters fence
fence_added fence mid new u grown = ap chars grown ∙ chars-append mid (fence_characters fence) u ∙ ap (λ q. chars mid ++ q) (mark_chars fence)

-- the rest has no backslash
pub last : (mark : ℕ) (old new rest whole : List ℕ) → IsUtf8 old → new ≡ old ++ rest → NonePass (λ c. c == backslash) (chars rest) → chars old ++ fences_unescaped mark 0 (chars rest) ≡ whole → chars new ≡ whole
last mark old new rest whole u grown none inv =
    let read : fences_unescaped mark 0 (chars rest) ≡ chars rest =
    ap (fences_unescaped mark 0) (sym (append-nil (chars rest))) ∙ front_step mark (chars rest) [] none ∙ append-nil (chars rest) in
    ap chars grown ∙ chars-append old rest u ∙ ap (λ q. chars old ++ q) (sym read) ∙ inv

-- ---- room for a piece: what is added for a text is no longer than the text

-- there is room for what is before a backslash, for the backslash, and for what comes after it
pub room_at_cut : (size capacity : ℕ) (text front next : List ℕ) → text ≡ front ++ backslash ∷ next → size + length text ≤ capacity → size + length front + suc (length next) ≤ capacity
room_at_cut size capacity text front next is room =
    let parts : length text ≡ length front + suc (length next) = ap length is ∙ length-append front (backslash ∷ next) in
    omega (arith, parts, room)

pub length-fence_characters : (fence : Fence) → length (fence_characters fence) ≡ 3
length-fence_characters Quotes = refl
length-fence_characters Backticks = refl

-- an escaped fence is longer than the fence
pub length-after_backslash : (fence : Fence) (tail : List ℕ) → backslash ∷ tail ≡ escaped_mark (fence_mark fence) → suc (length tail) ≡ 6
length-after_backslash Quotes tail is = ap length is
length-after_backslash Backticks tail is = ap length is
