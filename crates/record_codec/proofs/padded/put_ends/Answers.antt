use Rattle.std.proofs.Common.{◌≡◌, ◌≤◌, ◌+◌, ◌-◌, ◌++◌, ℕ, List, length, take, drop, ap, sym, ◌∙◌, append_assoc, arith, rules}
use Rattle.std.proofs.lemmas.List.{drop-drop, length-take-le, take-append-drop, take-append-le, take-take, take_rest}
use Rattle.std.proofs.lemmas.Slice.{drop-put_mid}
use borrow.Rule.Slice.PartMut.{put_mid}
use Rattle.record_codec.proofs.padded.put_ends.Goals as goal

-- the first n bytes, and then the last n over them, are all bytes
both-ends : (n last : ℕ) (buffer bytes : List ℕ) → last + n ≡ length bytes → last ≤ n → length bytes ≤ length buffer
    → put_mid last n (put_mid 0 n buffer (take n bytes)) (drop last bytes) ≡ bytes ++ drop (length bytes) buffer
both-ends n last buffer bytes whole few room =
    let long : length (take n bytes) ≡ n = length-take-le n bytes (omega arith) in
    let front : take last (put_mid 0 n buffer (take n bytes)) ≡ take last bytes =
    take-append-le last (take n bytes) (drop n buffer) (omega arith) ∙ take-take last n bytes few in
    let back : drop n (drop last (put_mid 0 n buffer (take n bytes))) ≡ drop (length bytes) buffer =
    drop-drop n last (put_mid 0 n buffer (take n bytes)) ∙ drop-put_mid 0 n buffer (take n bytes) (last + n) (omega arith) (omega arith) long
    ∙ ap (λ (k : ℕ). drop k buffer) whole in
    ap (λ (t : List ℕ). t ++ (drop last bytes ++ drop n (drop last (put_mid 0 n buffer (take n bytes))))) front
    ∙ ap (λ (t : List ℕ). take last bytes ++ (drop last bytes ++ t)) back
    ∙ sym (append_assoc (take last bytes) (drop last bytes) (drop (length bytes) buffer))
    ∙ ap (λ (t : List ℕ). t ++ drop (length bytes) buffer) (take-append-drop last bytes)

-- the same of what was written
ends-put : (n last k : ℕ) (buffer bytes front back : List ℕ) → front ≡ take n bytes → back ≡ drop last bytes → k ≡ n
    → last + n ≡ length bytes → last ≤ n → length bytes ≤ length buffer
    → put_mid last k (put_mid 0 n buffer front) back ≡ bytes ++ drop (length bytes) buffer
ends-put n last k buffer bytes front back is also same whole few room =
    (λ i. put_mid last (same i) (put_mid 0 n buffer (is i)) (also i)) ∙ both-ends n last buffer bytes whole few room

pub returns : goal.returns
returns g c =
    let front : c.copy_from_slice.new.self ≡ take g.row.N c.args.bytes.now = search rules in
    let back : c.copy_from_slice-2.new.self ≡ drop (length c.args.bytes.now - g.row.N) c.args.bytes.now =
    c.copy_from_slice-2.ensures.after ∙ take_rest c.args.bytes.now (length c.args.bytes.now - g.row.N) in
    ends-put g.row.N (length c.args.bytes.now - g.row.N) _ c.args.buffer.now c.args.bytes.now _ _ front back
    (omega arith) (omega arith) (omega arith) (omega arith)
