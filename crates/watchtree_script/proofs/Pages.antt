-- Text that waits, and what is written of it.
use Rattle.std.proofs.Common.{◌≡◌, ℕ, List, [], ◌++◌, take, drop, Option, Result, Ok, Err, sym, ap, ◌∙◌, append_assoc}
use Rattle.std.specs.Prelude.{OnOk, OnErr}
use Rattle.std.proofs.lemmas.List.{append-nil, take-append-drop}
use Rattle.std.specs.Io.KnownBytes.{Appends}
use Rattle.watchtree_script.specs.declared.fault.RunFault.{RunFault}
use Rattle.watchtree_script.specs.Running.{Passes, IsFrontWritten}
use Rattle.watchtree_script.proofs.Known.{Appends-more}

pub front-taken : (bytes : List ℕ) (n : ℕ) (old new : Option (List ℕ)) → Appends old new (take n bytes) → IsFrontWritten bytes old new
front-taken bytes n old new added = record { written = take n bytes; more = drop n bytes; parted = sym (take-append-drop n bytes); added = added }

pub front-all : (bytes : List ℕ) (old new : Option (List ℕ)) → Appends old new bytes → IsFrontWritten bytes old new
front-all bytes old new added = record { written = bytes; more = []; parted = sym (append-nil bytes); added = added }

-- a front of the first bytes is a front of these with others behind them
pub front-first : (bytes others : List ℕ) (old new : Option (List ℕ)) → IsFrontWritten bytes old new → IsFrontWritten (bytes ++ others) old new
front-first bytes others old new part = record {
  written = part.written;
  more = part.more ++ others;
  parted = ap (λ (t : List ℕ). t ++ others) part.parted ∙ append_assoc part.written part.more others;
  added = part.added;
}

-- bytes that were written, with a front of others behind them
front-second : (bytes others : List ℕ) (old mid new : Option (List ℕ)) → Appends old mid bytes → IsFrontWritten others mid new
    → IsFrontWritten (bytes ++ others) old new
front-second bytes others old mid new added part = record {
  written = bytes ++ part.written;
  more = part.more;
  parted = ap (λ (t : List ℕ). bytes ++ t) part.parted ∙ sym (append_assoc bytes part.written part.more);
  added = Appends-more old mid new bytes part.written added part.added;
}

pub front-second-at : {A : Type 0} (r : Result A RunFault) (bytes others : List ℕ) (old mid new : Option (List ℕ))
    → Appends old mid bytes → OnErr r (IsFrontWritten others mid new)
    → OnErr r (IsFrontWritten (bytes ++ others) old new)
front-second-at (Ok x) bytes others old mid new added h = tt
front-second-at (Err e) bytes others old mid new added h = front-second bytes others old mid new added h

-- all was written, and nothing waits
pub passes-all : {A : Type 0} (r : Result A RunFault) (bytes others left : List ℕ) (old mid new : Option (List ℕ)) → left ≡ []
    → Appends old mid bytes → OnOk r (Appends mid new others)
    → OnOk r (Passes bytes others left old new)
passes-all (Ok x) bytes others left old mid new none first second = record {
  written = bytes ++ others;
  parted = sym (ap (λ (t : List ℕ). (bytes ++ others) ++ t) none ∙ append-nil (bytes ++ others));
  added = Appends-more old mid new bytes others first second;
}
passes-all (Err e) bytes others left old mid new none first second = tt
