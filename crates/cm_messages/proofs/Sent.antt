-- Arrays from what is sent for their items.
use Rattle.std.proofs.Common.{◌≡◌, ◌∙◌, ℕ, suc, ◌+◌, ◌<◌, List, [], ◌∷◌, ◌++◌, length, map, get_or, drop, Some, refl, sym, ap, subst}
use Rattle.std.proofs.lemmas.List.{drop_more}
use Rattle.serde.specs.Event.{Log, Logs, seq_begins, seq_ends, WritesEach}
use Rattle.serde_json.specs.Data.{Data, array}
use Rattle.serde_json.specs.View.{items_of}
use Rattle.serde_json.specs.Events.{items_len, SendsValue, SendsItems}

pub each_of_two : {A : Type 0} (w : A → Log → Log → Type 0) (xs ys : List A) (old mid new : Log) → WritesEach w xs old mid → WritesEach w ys mid new
    → WritesEach w (xs ++ ys) old new
each_of_two w [] ys old mid new h k = subst (λ m. WritesEach w ys m new) h k
each_of_two w (x ∷ xs) ys old mid new h k = (h.0, h.1, each_of_two w xs ys h.0 mid new h.2 k)

pub items_len_of : (ds : List Data) → items_len (items_of ds) ≡ length ds
items_len_of [] = refl
items_len_of (d ∷ ds) = ap suc (items_len_of ds)

items_end : (ds : List Data) (first last new : Log) → WritesEach SendsValue ds first last → Logs last new seq_ends → SendsItems (items_of ds) first new
items_end [] first last new h k = subst (λ m. Logs m new seq_ends) h k
items_end (d ∷ ds) first last new h k = (h.0, h.1, items_end ds h.0 last new h.2 k)

-- values between the marks of a sequence are an array
pub array_sent : (ds : List Data) (n : ℕ) (old first last new : Log) → n ≡ length ds → Logs old first (seq_begins (Some n)) → WritesEach SendsValue ds first last
    → Logs last new seq_ends → SendsValue (array (items_of ds)) old new
array_sent ds n old first last new len begun each ended =
    (first, subst (λ m. Logs old first (seq_begins (Some m))) (len ∙ sym (items_len_of ds)) begun, items_end ds first last new each ended)

-- one item of a list, and then the rest
pub each_next : {X : Type 0} (f : X → Data) (xs : List X) (i : ℕ) (x : X) (old mid end : Log) → i < length xs → x ≡ get_or xs i x → SendsValue (f x) old mid
    → WritesEach SendsValue (map f (drop (i + 1) xs)) mid end → WritesEach SendsValue (map f (drop i xs)) old end
each_next f xs i x old mid end lt is sent rest =
    subst (λ ys. WritesEach SendsValue (map f ys) old end) (sym (drop_more xs i x lt)) (mid, subst (λ y. SendsValue (f y) old mid) is sent, rest)
