-- What a line asks for is a call that lines make.
use Rattle.std.proofs.Common.{All, ◌≡◌, ◌==◌, ◌&&◌, ℕ, zero, suc, ◌-◌, ◌^◌, ◌<◌, ◌≤◌, Bool, true, false, not, cond, leb, ltb, List, [], ◌∷◌}
use Rattle.std.proofs.Common.{length}
use Rattle.std.proofs.Common.{get_or, Option, Some, None, Result, Ok, Err, refl, sym, subst, arith, length-append, if◌then◌else◌}
use Rattle.std.specs.Prelude.{filter, codes, FitsSigned, ℤ, pos, neg_ℤ, option_map, option_and_then}
use Rattle.std.specs.Char.{is_digit}
use Rattle.std.specs.Int.{w32}
use Rattle.std.specs.List.{list_all, list_any, onto_first, slice_split}
use Rattle.std.specs.Result.{result_ok}
use Rattle.std.specs.Str.{bytes_eq}
use Rattle.std.specs.Str.Parse.{digits_value}
use Rattle.std.proofs.Math.Nat.{pow-le-pow_right}
use Rattle.std.proofs.lemmas.Bool.{and_from, and_parts, leb-false, leb-true, not-false}
use Rattle.std.proofs.lemmas.Bool.Decides.{nat_tests}
use Rattle.std.proofs.lemmas.Int.Digits.{digits_value-lt}
use Rattle.hex.specs.Hex.{decode_of}
use Rattle.hex.proofs.HexLemmas.{decode_of-ok}
use Rattle.record_codec.specs.Names.{IsBytes, IsName}
use Rattle.tree_paths.specs.declared.refusal.Refusal.{Refusal}
use Rattle.tree_paths.specs.Paths.{is_dots, is_long, is_null, names_of, parsed, pathname_of, slashed}
use Rattle.tree_paths.specs.Pieces.{is_nonempty, pieces}
use Rattle.tree_ops.specs.declared.call.FileCall.TheVariants as file
use Rattle.tree_core.specs.declared.call.Call.{Call}
use Rattle.tree_core.specs.declared.call.Call.TheVariants as call
use Rattle.watchtree_script.specs.declared.fault.ScriptFault.{ScriptFault}
use Rattle.watchtree_script.specs.declared.fault.ScriptFault.TheVariants.{BadByte, BadHex, WrongNumber}
use Rattle.watchtree_script.specs.declared.line.Command.{Command}
use Rattle.watchtree_script.specs.declared.line.Command.TheVariants as command
use Rattle.watchtree_script.specs.declared.line.Line.TheVariants.{Silent, Cut, Run}
use Rattle.watchtree_script.specs.declared.line.LineError.{LineError}
use Rattle.watchtree_script.specs.declared.line.LineError.TheVariants.{Fault}
use Rattle.watchtree_script.specs.declared.line.OutputFormat.{OutputFormat}
use Rattle.watchtree_script.specs.declared.line.OutputFormat.TheVariants as formats
use Rattle.watchtree_script.specs.CallLines.{IsScriptCall, IsScriptPath}
use Rattle.watchtree_script.specs.Commands.{◌>>=◌, refused, path_of, paths_of, a_path, old_and_new, path_and_mode, id_and_bytes, asking, one, two, three}
use Rattle.watchtree_script.specs.Commands.{none_or_one, nth}
use Rattle.watchtree_script.specs.Commands.{write_call, cat_call, truncate_call, rename2_call, watch_call, unwatch_call}
use Rattle.watchtree_script.specs.Commands.{command_of, line_asked, line_of, line_of_word, words_line}
use Rattle.watchtree_script.specs.Laws.{LinesAskForScriptCalls}
use Rattle.watchtree_script.specs.Lines.{is_line_byte, is_silent, words_of}
use Rattle.watchtree_script.specs.Words.{number_spelled, or_fault, before, byte_of, unescaped, behind, signed_number}
use Rattle.watchtree_script.specs.Words.{mode_word, mask_word, u32_word, u64_word, i32_word, hex_word, path_word}
use Rattle.watchtree_script.proofs.NumberLemmas.{AllDigits-from_test}

-- ---- what a value shows of the steps before it

-- a step that went on had a value
pub record Went {A B : Type 0} (r : Result A LineError) (f : A → Result B LineError) (y : B) : Type 0 where
  pub value : A
  pub was : r ≡ Ok value
  pub rest : f value ≡ Ok y

went : {A B : Type 0} (r : Result A LineError) (f : A → Result B LineError) (y : B) → (r >>= f) ≡ Ok y → Went r f y
went (Ok x) f y h = record { value = x; was = refl; rest = h }
went (Err e) f y h = absurd (cc)

-- a choice that gives a value was made for it
chosen : {A E : Type 0} (t : Bool) (x : Result A E) (e : E) (y : A) → (if t then x else Err e) ≡ Ok y → (t ≡ true) × (x ≡ Ok y)
chosen true x e y h = (refl, h)
chosen false x e y h = absurd (cc)

passed : {A E : Type 0} (t : Bool) (x : Result A E) (e : E) (y : A) → (if t then Err e else x) ≡ Ok y → (t ≡ false) × (x ≡ Ok y)
passed true x e y h = absurd (cc)
passed false x e y h = (refl, h)

record IsAsked {A : Type 0} (f : A → Call) (r : Result A LineError) (c : Call) : Type 0 where
  pub value : A
  pub was : r ≡ Ok value
  pub made : c ≡ f value

asked : {A : Type 0} (how format : OutputFormat) (f : A → Call) (r : Result A LineError) (c : Call) → asking how f r ≡ Ok (Run c format) → IsAsked f r c
asked how format f (Ok x) c h = record { value = x; was = refl; made = cc }
asked how format f (Err e) c h = absurd (cc)

or-fault : {A : Type 0} (f : ScriptFault) (o : Option A) (x : A) → or_fault f o ≡ Ok x → o ≡ Some x
or-fault f None x h = absurd (cc)
or-fault f (Some y) x h = cc

-- ---- words

spelled : (t : Bool) (value n : ℕ) → (if t then Some value else None) ≡ Some n → (t ≡ true) × (value ≡ n)
spelled true value n h = (refl, cc)
spelled false value n h = absurd (cc)

pub record IsSpelledOf (radix most greatest n : ℕ) : Type 0 where
  pub within : n ≤ greatest
  pub short : 1 < radix → n < radix ^ most

number-within : (radix most greatest n : ℕ) (ds : List ℕ) → number_spelled radix most greatest ds ≡ Some n → IsSpelledOf radix most greatest n
unfolding number_spelled
number-within radix most greatest n ds h =
    let found = spelled _ (digits_value radix ds) n h in
    let last = and_parts _ (leb (digits_value radix ds) greatest) found.0 in
    let digits = and_parts _ (list_all (λ c. is_digit c radix) ds) last.0 in
    let sizes = and_parts (ltb 0 (length ds)) (leb (length ds) most) digits.0 in
    let below : digits_value radix ds ≤ greatest = leb-true (digits_value radix ds) greatest last.1 in
    let few : length ds ≤ most = leb-true (length ds) most sizes.1 in
    let value = digits_value-lt radix ds (AllDigits-from_test radix ds digits.1) in
    record {
      within = omega (arith, below, found.1);
      short = λ large. let some : 0 < radix = omega arith in omega (arith, value, found.1, pow-le-pow_right {n = radix} some {i = length ds} {j = most} few);
    }

mode-asked : (word : List ℕ) (n : ℕ) → mode_word word ≡ Ok n → n < 8 ^ 6
unfolding mode_word
mode-asked word n h = (number-within 8 6 (2 ^ 32 - 1) n word (or-fault _ _ n h)).short (omega arith)

u32-asked : (word : List ℕ) (n : ℕ) → u32_word word ≡ Ok n → n < 2 ^ 32
unfolding u32_word
u32-asked word n h = omega (arith, (number-within 10 20 (2 ^ 32 - 1) n word (or-fault _ _ n h)).within)

u64-asked : (word : List ℕ) (n : ℕ) → u64_word word ≡ Ok n → n < 2 ^ 64
unfolding u64_word
u64-asked word n h = omega (arith, (number-within 10 20 (2 ^ 64 - 1) n word (or-fault _ _ n h)).within)

mask-some : (o : Option (List ℕ)) (n : ℕ) → option_and_then (number_spelled 16 8 (2 ^ 32 - 1)) o ≡ Some n → n < 2 ^ 32
mask-some None n h = absurd (cc)
mask-some (Some ds) n h = omega (arith, (number-within 16 8 (2 ^ 32 - 1) n ds h).within)

mask-asked : (word : List ℕ) (n : ℕ) → mask_word word ≡ Ok n → n < 2 ^ 32
unfolding mask_word
mask-asked word n h = mask-some (behind (codes "0x") word) n (or-fault _ _ n h)

from-zero-some : (o : Option ℕ) (z : ℤ) → ((n : ℕ) → o ≡ Some n → n ≤ 2 ^ 31 - 1) → option_map (λ n. pos n) o ≡ Some z → FitsSigned w32 z
from-zero-some None z h e = absurd (cc)
from-zero-some (Some n) z h e =
    let is : pos n ≡ z = cc in
    let small : n ≤ 2 ^ 31 - 1 = h n refl in
    subst (λ (y : ℤ). FitsSigned w32 y) is (record { sfits = omega arith })

below-zero-fits : (n : ℕ) → n ≤ 2 ^ 31 → FitsSigned w32 (neg_ℤ (pos n))
below-zero-fits zero h = record { sfits = omega arith }
below-zero-fits (suc n) h = record { sfits = omega arith }

below-zero-some : (o : Option ℕ) (z : ℤ) → ((n : ℕ) → o ≡ Some n → n ≤ 2 ^ 31) → option_map (λ n. neg_ℤ (pos n)) o ≡ Some z → FitsSigned w32 z
below-zero-some None z h e = absurd (cc)
below-zero-some (Some n) z h e =
    let is : neg_ℤ (pos n) ≡ z = cc in
    subst (λ (y : ℤ). FitsSigned w32 y) is (below-zero-fits n (h n refl))

signed-some : (o : Option (List ℕ)) (word : List ℕ) (z : ℤ) → signed_number o word ≡ Some z → FitsSigned w32 z
signed-some None word z h =
    from-zero-some (number_spelled 10 20 (2 ^ 31 - 1) word) z (λ n e. (number-within 10 20 (2 ^ 31 - 1) n word e).within) h
signed-some (Some ds) word z h =
    below-zero-some (number_spelled 10 20 (2 ^ 31) ds) z (λ n e. (number-within 10 20 (2 ^ 31) n ds e).within) h

i32-asked : (word : List ℕ) (z : ℤ) → i32_word word ≡ Ok z → FitsSigned w32 z
unfolding i32_word
i32-asked word z h = signed-some (behind (codes "-") word) word z (or-fault _ _ z h)

no-bytes : IsBytes []
no-bytes i = omega arith

hex-choice : (t : Bool) (r : Result (List ℕ) LineError) (bytes : List ℕ) → ((xs : List ℕ) → r ≡ Ok xs → IsBytes xs) → (if t then Ok [] else r) ≡ Ok bytes
    → IsBytes bytes
hex-choice true r bytes each h = let is : [] ≡ bytes = cc in subst IsBytes is no-bytes
hex-choice false r bytes each h = each bytes h

hex-result : {E : Type 0} (r : Result (List ℕ) E) (xs : List ℕ) → result_ok r ≡ Some xs → r ≡ Ok xs
hex-result (Ok ys) xs h = cc
hex-result (Err e) xs h = absurd (cc)

hex-asked : (word bytes : List ℕ) → hex_word word ≡ Ok bytes → IsBytes bytes
unfolding hex_word
hex-asked word bytes h =
    hex-choice (bytes_eq word (codes "-")) (or_fault BadHex (result_ok (decode_of word))) bytes
    (λ xs e. (decode_of-ok word xs (hex-result (decode_of word) xs (or-fault BadHex (result_ok (decode_of word)) xs e))).3) h

-- ---- the bytes of a path's word

bytes-cons : (b : ℕ) (bs : List ℕ) → b < 256 → IsBytes bs → IsBytes (b ∷ bs)
bytes-cons b bs h t zero = h
bytes-cons b bs h t (suc i) = t i

record IsBefore (first : Option ℕ) (rest : Option (List ℕ)) (text : List ℕ) : Type 0 where
  pub byte : ℕ
  pub bytes : List ℕ
  pub first_is : first ≡ Some byte
  pub rest_is : rest ≡ Some bytes
  pub text_is : byte ∷ bytes ≡ text

before-some : (first : Option ℕ) (rest : Option (List ℕ)) (text : List ℕ) → before first rest ≡ Some text → IsBefore first rest text
before-some None rest text h = absurd (cc)
before-some (Some b) None text h = absurd (cc)
before-some (Some b) (Some bs) text h = record { byte = b; bytes = bs; first_is = refl; rest_is = refl; text_is = cc }

-- a text that begins with a byte below 256, and goes on with bytes
begun : (first : Option ℕ) (rest : Option (List ℕ)) (text : List ℕ) → ((b : ℕ) → first ≡ Some b → b < 256) → ((bs : List ℕ) → rest ≡ Some bs → IsBytes bs)
    → before first rest ≡ Some text → IsBytes text
begun first rest text one more h =
    let parts = before-some first rest text h in
    subst IsBytes parts.text_is (bytes-cons parts.byte parts.bytes (one parts.byte parts.first_is) (more parts.bytes parts.rest_is))

small-byte : (b : ℕ) → is_line_byte b ≡ true → b < 256
small-byte b h = grind (arith, nat_tests)

own-byte : (b c : ℕ) → b < 256 → Some b ≡ Some c → c < 256
own-byte b c h e = let is : b ≡ c = cc in omega (arith, is)

escaped-byte : (c d b : ℕ) → byte_of c d ≡ Some b → b < 256
escaped-byte c d b h = omega (arith, (number-within 16 2 (2 ^ 8 - 1) b (c ∷ d ∷ []) h).within)

either : (t : Bool) (x y : Option (List ℕ)) (text : List ℕ) → (x ≡ Some text → IsBytes text) → (y ≡ Some text → IsBytes text) → (if t then x else y) ≡ Some text
    → IsBytes text
either true x y text p q h = p h
either false x y text p q h = q h

empty-text : (text : List ℕ) → Some [] ≡ Some text → IsBytes text
empty-text text h = let is : [] ≡ text = cc in subst IsBytes is no-bytes

unescaped-bytes : (word text : List ℕ) → list_all is_line_byte word ≡ true → unescaped word ≡ Some text → IsBytes text
unescaped-bytes [] text pass h = empty-text text h
unescaped-bytes (b ∷ []) text pass h =
    let parts = and_parts (is_line_byte b) true pass in
    either (b == 37) None (Some (b ∷ [])) text (λ e. absurd (cc))
    (λ e. begun (Some b) (Some []) text (λ c i. own-byte b c (small-byte b parts.0) i) empty-text e) h
unescaped-bytes (b ∷ c ∷ []) text pass h =
    let parts = and_parts (is_line_byte b) (list_all is_line_byte (c ∷ [])) pass in
    either (b == 37) None (before (Some b) (unescaped (c ∷ []))) text (λ e. absurd (cc))
    (λ e. begun (Some b) (unescaped (c ∷ [])) text (λ x i. own-byte b x (small-byte b parts.0) i) (λ bs i. unescaped-bytes (c ∷ []) bs parts.1 i) e) h
unescaped-bytes (b ∷ c ∷ d ∷ bs) text pass h =
    let parts = and_parts (is_line_byte b) (list_all is_line_byte (c ∷ d ∷ bs)) pass in
    let behind_two = (and_parts (is_line_byte d) (list_all is_line_byte bs) (and_parts (is_line_byte c) (list_all is_line_byte (d ∷ bs)) parts.1).1).1 in
    either (b == 37) (before (byte_of c d) (unescaped bs)) (before (Some b) (unescaped (c ∷ d ∷ bs))) text
    (λ e. begun (byte_of c d) (unescaped bs) text (λ x i. escaped-byte c d x i) (λ xs i. unescaped-bytes bs xs behind_two i) e)
    (λ e. begun (Some b) (unescaped (c ∷ d ∷ bs)) text (λ x i. own-byte b x (small-byte b parts.0) i) (λ xs i. unescaped-bytes (c ∷ d ∷ bs) xs parts.1 i) e) h

path-word-bytes : (word text : List ℕ) → list_all is_line_byte word ≡ true → path_word word ≡ Ok text → IsBytes text
unfolding path_word
path-word-bytes word text pass h = unescaped-bytes word text pass (or-fault _ _ text h)

-- ---- paths

-- with a slash before each piece, there is one byte more than there was
length-slashed-pieces : (bs : List ℕ) → length (slashed (pieces 47 bs)) ≡ suc (length bs)
length-slashed-pieces [] = refl
length-slashed-pieces (b ∷ bs) = go (b == 47) (pieces 47 bs) (length-slashed-pieces bs)
  where
    go : (t : Bool) (parts : List (List ℕ)) → length (slashed parts) ≡ suc (length bs)
        → length (slashed (cond t ([] ∷ parts) (onto_first b parts))) ≡ suc (suc (length bs))
    go true parts h = omega (arith, h)
    go false [] h = absurd (omega (arith, h))
    go false (x ∷ xs) h = omega (arith, h, length-append x (slashed xs), length-append (b ∷ x) (slashed xs))

length-slashed-kept : (parts : List (List ℕ)) → length (slashed (filter is_nonempty parts)) ≤ length (slashed parts)
length-slashed-kept [] = omega arith
length-slashed-kept (x ∷ xs) = go (is_nonempty x) (length-slashed-kept xs)
  where
    go : (t : Bool) → length (slashed (filter is_nonempty xs)) ≤ length (slashed xs)
        → length (slashed (cond t (x ∷ filter is_nonempty xs) (filter is_nonempty xs))) ≤ length (slashed (x ∷ xs))
    go true h = omega (arith, h, length-append x (slashed xs), length-append x (slashed (filter is_nonempty xs)))
    go false h = omega (arith, h, length-append x (slashed xs))

-- the names of a text that begins with a slash are no longer than the text
names-short : (text : List ℕ) → (get_or text 0 0 == 47) ≡ true → length (slashed (names_of text)) ≤ length text
names-short [] h = absurd (cc)
names-short (b ∷ bs) h =
    let parts = length-slashed-kept (pieces 47 bs) in
    rw h (omega (arith, parts, length-slashed-pieces bs))

pathname-short : (names : List (List ℕ)) (n : ℕ) → length (slashed names) ≤ n → n < 4096 → length (pathname_of names) < 4096
pathname-short [] n h k = omega arith
pathname-short (x ∷ xs) n h k = omega (arith, h, k)

parsed-short : (text : List ℕ) (names : List (List ℕ)) → parsed text ≡ Ok names → length (pathname_of names) < 4096
unfolding parsed
parsed-short text names h =
    let some = passed (length text == 0) _ _ names h in
    let short = passed (leb 4096 (length text)) _ _ names some.1 in
    let slashed_text = passed (not (get_or text 0 0 == 47)) _ _ names short.1 in
    let no_null = passed (list_any is_null text) _ _ names slashed_text.1 in
    let no_end = passed (ltb 1 (length text) && (get_or text (length text - 1) 0 == 47)) _ _ names no_null.1 in
    let no_dots = passed (list_any is_dots (names_of text)) _ _ names no_end.1 in
    let no_long = passed (list_any is_long (names_of text)) _ _ names no_dots.1 in
    let is : names_of text ≡ names = cc (no_long.1) in
    let first : (get_or text 0 0 == 47) ≡ true = not-false (get_or text 0 0 == 47) slashed_text.0 in
    subst (λ (l : List (List ℕ)). length (pathname_of l) < 4096) is
    (pathname-short (names_of text) (length text) (names-short text first) (leb-false 4096 (length text) short.0))

abbrev pub ParsedNamesAreNames : Type 0
ParsedNamesAreNames = (text : List ℕ) (names : List (List ℕ)) → IsBytes text → parsed text ≡ Ok names → All IsName names

was-accepted : {A : Type 0} (r : Result A Refusal) (x : A) → refused r ≡ Ok x → r ≡ Ok x
was-accepted (Ok y) x h = cc
was-accepted (Err e) x h = absurd (cc)

path-asked : ParsedNamesAreNames → (word text : List ℕ) (names : List (List ℕ)) → list_all is_line_byte word ≡ true → path_word word ≡ Ok text
    → path_of text ≡ Ok names → IsScriptPath names
unfolding path_of
path-asked law word text names pass h k =
    let is = was-accepted (parsed text) names k in
    record { names = law text names (path-word-bytes word text pass h) is; short = parsed-short text names is }

-- ---- the words of a line are of its bytes

abbrev PassEach : (ℕ → Bool) → List (List ℕ) → Type 0
PassEach p [] = Unit {0}
PassEach p (x ∷ xs) = (list_all p x ≡ true) × PassEach p xs

split-pass : (p s : ℕ → Bool) (bs : List ℕ) → list_all p bs ≡ true → PassEach p (slice_split s bs)
split-pass p s [] h = (refl, tt)
split-pass p s (b ∷ bs) h =
    let parts = and_parts (p b) (list_all p bs) h in
    go (s b) (slice_split s bs) parts.0 (split-pass p s bs parts.1)
  where
    go : (t : Bool) (xs : List (List ℕ)) → p b ≡ true → PassEach p xs → PassEach p (cond t ([] ∷ xs) (onto_first b xs))
    go true xs here each = (refl, each)
    go false [] here each = (and_from (p b) true here refl, tt)
    go false (x ∷ xs) here each = (and_from (p b) (list_all p x) here each.0, each.1)

filter-pass : (p : ℕ → Bool) (q : List ℕ → Bool) (xs : List (List ℕ)) → PassEach p xs → PassEach p (filter q xs)
filter-pass p q [] h = tt
filter-pass p q (x ∷ xs) h = go (q x) (filter-pass p q xs h.1)
  where
    go : (t : Bool) → PassEach p (filter q xs) → PassEach p (cond t (x ∷ filter q xs) (filter q xs))
    go true rest = (h.0, rest)
    go false rest = rest

nth-pass : (p : ℕ → Bool) (words : List (List ℕ)) (i : ℕ) → PassEach p words → list_all p (nth words i) ≡ true
nth-pass p [] i h = refl
nth-pass p (x ∷ xs) zero h = h.0
nth-pass p (x ∷ xs) (suc i) h = nth-pass p xs i h.1

-- ---- the words of each command

module _ (law : ParsedNamesAreNames) where
  a-path-asked : (word : List ℕ) (names : List (List ℕ)) → list_all is_line_byte word ≡ true → a_path word ≡ Ok names → IsScriptPath names
  unfolding a_path
  a-path-asked word names pass h =
      let text = went (path_word word) path_of names h in
      path-asked law word text.value names pass text.was text.rest

  paths-asked : (old new old_text new_text : List ℕ) (names : List (List ℕ) × List (List ℕ)) → list_all is_line_byte old ≡ true
      → list_all is_line_byte new ≡ true
      → path_word old ≡ Ok old_text → path_word new ≡ Ok new_text → paths_of old_text new_text ≡ Ok names → IsScriptPath names.0 × IsScriptPath names.1
  unfolding paths_of
  paths-asked old new old_text new_text names pass too h k e =
      let first = went (path_of old_text) _ names e in
      let second = went (path_of new_text) _ names first.rest in
      let is : (first.value, second.value) ≡ names = cc (second.rest) in
      subst (λ (n : List (List ℕ) × List (List ℕ)). IsScriptPath n.0 × IsScriptPath n.1) is
      (path-asked law old old_text first.value pass h first.was, path-asked law new new_text second.value too k second.was)

  old-and-new-asked : (old new : List ℕ) (names : List (List ℕ) × List (List ℕ)) → list_all is_line_byte old ≡ true → list_all is_line_byte new ≡ true
      → old_and_new old new ≡ Ok names → IsScriptPath names.0 × IsScriptPath names.1
  unfolding old_and_new
  old-and-new-asked old new names pass too h =
      let first = went (path_word old) _ names h in
      let second = went (path_word new) _ names first.rest in
      paths-asked old new first.value second.value names pass too first.was second.was second.rest

  path-and-mode-asked : (path mode : List ℕ) (found : List (List ℕ) × ℕ) → list_all is_line_byte path ≡ true → path_and_mode path mode ≡ Ok found
      → IsScriptPath found.0 × (found.1 < 8 ^ 6)
  unfolding path_and_mode
  path-and-mode-asked path mode found pass h =
      let text = went (path_word path) _ found h in
      let bits = went (mode_word mode) _ found text.rest in
      let names = went (path_of text.value) _ found bits.rest in
      let is : (names.value, bits.value) ≡ found = cc (names.rest) in
      subst (λ (f : List (List ℕ) × ℕ). IsScriptPath f.0 × (f.1 < 8 ^ 6)) is
      (path-asked law path text.value names.value pass text.was names.was, mode-asked mode bits.value bits.was)

  id-and-bytes-asked : (id bytes : List ℕ) (found : ℕ × ℕ) → id_and_bytes id bytes ≡ Ok found → (found.0 < 2 ^ 32) × (found.1 < 2 ^ 32)
  unfolding id_and_bytes
  id-and-bytes-asked id bytes found h =
      let first = went (u32_word id) _ found h in
      let second = went (u32_word bytes) _ found first.rest in
      let is : (first.value, second.value) ≡ found = cc (second.rest) in
      subst (λ (f : ℕ × ℕ). (f.0 < 2 ^ 32) × (f.1 < 2 ^ 32)) is (u32-asked id first.value first.was, u32-asked bytes second.value second.was)

  write-asked : (path offset bytes : List ℕ) (c : Call) → list_all is_line_byte path ≡ true → write_call path offset bytes ≡ Ok c → IsScriptCall c
  unfolding write_call
  write-asked path offset bytes c pass h =
      let text = went (path_word path) _ c h in
      let at = went (u64_word offset) _ c text.rest in
      let given = went (hex_word bytes) _ c at.rest in
      let names = went (path_of text.value) _ c given.rest in
      let is : call.File (file.Write names.value at.value given.value) ≡ c = cc (names.rest) in
      subst IsScriptCall is
      (path-asked law path text.value names.value pass text.was names.was, u64-asked offset at.value at.was, hex-asked bytes given.value given.was)

  cat-asked : (path offset count : List ℕ) (c : Call) → list_all is_line_byte path ≡ true → cat_call path offset count ≡ Ok c → IsScriptCall c
  unfolding cat_call
  cat-asked path offset count c pass h =
      let text = went (path_word path) _ c h in
      let at = went (u64_word offset) _ c text.rest in
      let many = went (u32_word count) _ c at.rest in
      let names = went (path_of text.value) _ c many.rest in
      let is : call.File (file.ReadFile names.value at.value many.value) ≡ c = cc (names.rest) in
      subst IsScriptCall is
      (path-asked law path text.value names.value pass text.was names.was, u64-asked offset at.value at.was, u32-asked count many.value many.was)

  truncate-asked : (path len : List ℕ) (c : Call) → list_all is_line_byte path ≡ true → truncate_call path len ≡ Ok c → IsScriptCall c
  unfolding truncate_call
  truncate-asked path len c pass h =
      let text = went (path_word path) _ c h in
      let most = went (u64_word len) _ c text.rest in
      let names = went (path_of text.value) _ c most.rest in
      let is : call.File (file.Truncate names.value most.value) ≡ c = cc (names.rest) in
      subst IsScriptCall is (path-asked law path text.value names.value pass text.was names.was, u64-asked len most.value most.was)

  rename2-asked : (old new flags : List ℕ) (c : Call) → list_all is_line_byte old ≡ true → list_all is_line_byte new ≡ true → rename2_call old new flags ≡ Ok c
      → IsScriptCall c
  unfolding rename2_call
  rename2-asked old new flags c pass too h =
      let first = went (path_word old) _ c h in
      let second = went (path_word new) _ c first.rest in
      let bits = went (u32_word flags) _ c second.rest in
      let names = went (paths_of first.value second.value) _ c bits.rest in
      let both = paths-asked old new first.value second.value names.value pass too first.was second.was names.was in
      let is : call.File (file.Rename2 names.value.0 names.value.1 bits.value) ≡ c = cc (names.rest) in
      subst IsScriptCall is (both.0, both.1, u32-asked flags bits.value bits.was)

  watch-asked : (id path mask : List ℕ) (c : Call) → list_all is_line_byte path ≡ true → watch_call id path mask ≡ Ok c → IsScriptCall c
  unfolding watch_call
  watch-asked id path mask c pass h =
      let instance = went (u32_word id) _ c h in
      let text = went (path_word path) _ c instance.rest in
      let bits = went (mask_word mask) _ c text.rest in
      let names = went (path_of text.value) _ c bits.rest in
      let is : call.AddWatch instance.value names.value bits.value ≡ c = cc (names.rest) in
      subst IsScriptCall is
      (u32-asked id instance.value instance.was, path-asked law path text.value names.value pass text.was names.was, mask-asked mask bits.value bits.was)

  unwatch-asked : (id wd : List ℕ) (c : Call) → unwatch_call id wd ≡ Ok c → IsScriptCall c
  unfolding unwatch_call
  unwatch-asked id wd c h =
      let instance = went (u32_word id) _ c h in
      let descriptor = went (i32_word wd) _ c instance.rest in
      let is : call.RmWatch instance.value descriptor.value ≡ c = cc (descriptor.rest) in
      subst IsScriptCall is (u32-asked id instance.value instance.was, i32-asked wd descriptor.value descriptor.was)

  -- ---- the table

  one-path : (words : List (List ℕ)) (f : List (List ℕ) → Call) (c : Call) (format : OutputFormat) (how : OutputFormat) → PassEach is_line_byte words
      → ((p : List (List ℕ)) → IsScriptPath p → IsScriptCall (f p)) → asking how f (one words a_path) ≡ Ok (Run c format) → IsScriptCall c
  one-path words f c format how pass each h =
      let r = asked how format f (one words a_path) c h in
      let was = (chosen (length words == 1) (a_path (nth words 0)) _ r.value r.was).1 in
      subst IsScriptCall (sym r.made) (each r.value (a-path-asked (nth words 0) r.value (nth-pass is_line_byte words 0 pass) was))

  with-mode : (words : List (List ℕ)) (f : List (List ℕ) × ℕ → Call) (c : Call) (format : OutputFormat) → PassEach is_line_byte words
      → ((p : List (List ℕ) × ℕ) → IsScriptPath p.0 × (p.1 < 8 ^ 6) → IsScriptCall (f p))
      → asking formats.Plain f (two words path_and_mode) ≡ Ok (Run c format) → IsScriptCall c
  with-mode words f c format pass each h =
      let r = asked formats.Plain format f (two words path_and_mode) c h in
      let was = (chosen (length words == 2) (path_and_mode (nth words 0) (nth words 1)) _ r.value r.was).1 in
      subst IsScriptCall (sym r.made) (each r.value (path-and-mode-asked (nth words 0) (nth words 1) r.value (nth-pass is_line_byte words 0 pass) was))

  two-paths : (words : List (List ℕ)) (f : List (List ℕ) × List (List ℕ) → Call) (c : Call) (format : OutputFormat) → PassEach is_line_byte words
      → ((p : List (List ℕ) × List (List ℕ)) → IsScriptPath p.0 × IsScriptPath p.1 → IsScriptCall (f p))
      → asking formats.Plain f (two words old_and_new) ≡ Ok (Run c format)
      → IsScriptCall c
  two-paths words f c format pass each h =
      let r = asked formats.Plain format f (two words old_and_new) c h in
      let was = (chosen (length words == 2) (old_and_new (nth words 0) (nth words 1)) _ r.value r.was).1 in
      subst IsScriptCall (sym r.made)
      (each r.value (old-and-new-asked (nth words 0) (nth words 1) r.value (nth-pass is_line_byte words 0 pass) (nth-pass is_line_byte words 1 pass) was))

  of-three : (words : List (List ℕ)) (g : List ℕ → List ℕ → List ℕ → Result Call LineError) (c : Call) (format : OutputFormat)
      → ((d : Call) → g (nth words 0) (nth words 1) (nth words 2) ≡ Ok d → IsScriptCall d)
      → asking formats.Plain (λ d. d) (three words g) ≡ Ok (Run c format) → IsScriptCall c
  of-three words g c format each h =
      let r = asked formats.Plain format (λ d. d) (three words g) c h in
      subst IsScriptCall (sym r.made) (each r.value (chosen (length words == 3) (g (nth words 0) (nth words 1) (nth words 2)) _ r.value r.was).1)

  of-two : (words : List (List ℕ)) (g : List ℕ → List ℕ → Result Call LineError) (c : Call) (format : OutputFormat)
      → ((d : Call) → g (nth words 0) (nth words 1) ≡ Ok d → IsScriptCall d) → asking formats.Plain (λ d. d) (two words g) ≡ Ok (Run c format) → IsScriptCall c
  of-two words g c format each h =
      let r = asked formats.Plain format (λ d. d) (two words g) c h in
      subst IsScriptCall (sym r.made) (each r.value (chosen (length words == 2) (g (nth words 0) (nth words 1)) _ r.value r.was).1)

  of-read : (words : List (List ℕ)) (how format : OutputFormat) (c : Call)
      → asking how (λ w. call.Read w.0 w.1) (two words id_and_bytes) ≡ Ok (Run c format) → IsScriptCall c
  of-read words how format c h =
      let r = asked how format (λ w. call.Read w.0 w.1) (two words id_and_bytes) c h in
      let was = (chosen (length words == 2) (id_and_bytes (nth words 0) (nth words 1)) _ r.value r.was).1 in
      subst IsScriptCall (sym r.made) (id-and-bytes-asked (nth words 0) (nth words 1) r.value was)

  limit-asked : (queue : ℕ) (words : List (List ℕ)) (t : Bool) (n : ℕ) → queue < 2 ^ 32 → (if t then Ok queue else one words u32_word) ≡ Ok n → n < 2 ^ 32
  limit-asked queue words true n h e = let is : queue ≡ n = cc in omega (arith, is)
  limit-asked queue words false n h e = u32-asked (nth words 0) n (chosen (length words == 1) (u32_word (nth words 0)) _ n e).1

  no-call : (t : Bool) (c : Call) (format : OutputFormat) → (if t then Ok Cut else Err (Fault WrongNumber)) ≡ Ok (Run c format) → IsScriptCall c
  no-call true c format h = absurd (cc)
  no-call false c format h = absurd (cc)

  command-asked : (queue : ℕ) (k : Command) (words : List (List ℕ)) (c : Call) (format : OutputFormat) → queue < 2 ^ 32 → PassEach is_line_byte words
      → line_asked queue k words ≡ Ok (Run c format) → IsScriptCall c
  command-asked queue command.Mkdir words c format small pass h = with-mode words (λ w. call.File (file.Mkdir w.0 w.1)) c format pass (λ p is. is) h
  command-asked queue command.Create words c format small pass h = with-mode words (λ w. call.File (file.Create w.0 w.1)) c format pass (λ p is. is) h
  command-asked queue command.Write words c format small pass h =
      of-three words write_call c format (λ d e. write-asked (nth words 0) (nth words 1) (nth words 2) d (nth-pass is_line_byte words 0 pass) e) h
  command-asked queue command.Cat words c format small pass h =
      of-three words cat_call c format (λ d e. cat-asked (nth words 0) (nth words 1) (nth words 2) d (nth-pass is_line_byte words 0 pass) e) h
  command-asked queue command.Truncate words c format small pass h =
      of-two words truncate_call c format (λ d e. truncate-asked (nth words 0) (nth words 1) d (nth-pass is_line_byte words 0 pass) e) h
  command-asked queue command.Chmod words c format small pass h = with-mode words (λ w. call.File (file.Chmod w.0 w.1)) c format pass (λ p is. is) h
  command-asked queue command.Link words c format small pass h = two-paths words (λ w. call.File (file.Link w.0 w.1)) c format pass (λ p is. is) h
  command-asked queue command.Unlink words c format small pass h = one-path words (λ p. call.File (file.Unlink p)) c format formats.Plain pass (λ p is. is) h
  command-asked queue command.Rmdir words c format small pass h = one-path words (λ p. call.File (file.Rmdir p)) c format formats.Plain pass (λ p is. is) h
  command-asked queue command.Rename words c format small pass h = two-paths words (λ w. call.File (file.Rename w.0 w.1)) c format pass (λ p is. is) h
  command-asked queue command.Rename2 words c format small pass h =
      of-three words rename2_call c format
      (λ d e. rename2-asked (nth words 0) (nth words 1) (nth words 2) d (nth-pass is_line_byte words 0 pass) (nth-pass is_line_byte words 1 pass) e) h
  command-asked queue command.Stat words c format small pass h = one-path words (λ p. call.File (file.Stat p)) c format formats.Plain pass (λ p is. is) h
  command-asked queue command.List words c format small pass h = one-path words (λ p. call.File (file.List p)) c format formats.Plain pass (λ p is. is) h
  command-asked queue command.Init words c format small pass h =
      let r = asked formats.Plain format (λ n. call.Init n false) (none_or_one words (Ok queue) u32_word) c h in
      subst IsScriptCall (sym r.made) (limit-asked queue words (length words == 0) r.value small r.was, refl)
  command-asked queue command.Watch words c format small pass h =
      of-three words watch_call c format (λ d e. watch-asked (nth words 0) (nth words 1) (nth words 2) d (nth-pass is_line_byte words 1 pass) e) h
  command-asked queue command.Unwatch words c format small pass h = of-two words unwatch_call c format (λ d e. unwatch-asked (nth words 0) (nth words 1) d e) h
  command-asked queue command.Read words c format small pass h = of-read words formats.Records format c h
  command-asked queue command.Hex words c format small pass h = of-read words formats.Hexadecimal format c h
  command-asked queue command.Close words c format small pass h =
      let r = asked formats.Plain format (λ id. call.Close id) (one words u32_word) c h in
      subst IsScriptCall (sym r.made) (u32-asked (nth words 0) r.value (chosen (length words == 1) (u32_word (nth words 0)) _ r.value r.was).1)
  command-asked queue command.Cut words c format small pass h = no-call (length words == 0) c format h

  named-asked : (queue : ℕ) (o : Option Command) (words : List (List ℕ)) (c : Call) (format : OutputFormat) → queue < 2 ^ 32 → PassEach is_line_byte words
      → line_of_word queue o words ≡ Ok (Run c format) → IsScriptCall c
  named-asked queue None words c format small pass h = absurd (cc)
  named-asked queue (Some k) words c format small pass h = command-asked queue k words c format small pass h

  words-asked : (queue : ℕ) (words : List (List ℕ)) (c : Call) (format : OutputFormat) → queue < 2 ^ 32 → PassEach is_line_byte words
      → words_line queue words ≡ Ok (Run c format) → IsScriptCall c
  unfolding words_line
  words-asked queue [] c format small pass h = absurd (cc)
  words-asked queue (word ∷ words) c format small pass h = named-asked queue (command_of word) words c format small pass.1 h

  pub lines_ask_for_script_calls : LinesAskForScriptCalls
  unfolding line_of
  lines_ask_for_script_calls queue line c format small h = not-silent (is_silent line) h
    where
      each-passes : (t : Bool) → t ≡ list_all is_line_byte line → (if not t then Err (Fault BadByte) else words_line queue (words_of line)) ≡ Ok (Run c format)
          → IsScriptCall c
      each-passes true is e =
          words-asked queue (words_of line) c format small
          (filter-pass is_line_byte is_nonempty (pieces 32 line) (split-pass is_line_byte (λ b. b == 32) line (sym is))) e
      each-passes false is e = absurd (cc)

      not-silent : (t : Bool)
          → (if t then Ok Silent else if not (list_all is_line_byte line) then Err (Fault BadByte) else words_line queue (words_of line)) ≡ Ok (Run c format)
          → IsScriptCall c
      not-silent true e = absurd (cc)
      not-silent false e = each-passes (list_all is_line_byte line) refl e
