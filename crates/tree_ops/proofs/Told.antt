-- What `stat` answers for a file of a world, from what is known of each part.
use Rattle.std.proofs.Common.{◌≡◌, ℕ, List, length, Option, Some, None, sym, ap, subst, ◌∙◌}
use Rattle.std.specs.Option.{option_and_then, option_map_or, IsSomeAnd}
use Rattle.std.specs.FinMap as finmap
use Rattle.inode_table.specs.World.{World, File, links, file_at}
use Rattle.inode_table.specs.declared.seen.Kind.{Kind}
use Rattle.tree_ops.specs.declared.answer.Answer.{Answer}
use Rattle.tree_ops.specs.declared.answer.Answer.TheVariants.{Done, Stat}
use Rattle.tree_ops.specs.After.{stat_of}

pub stat-told : (w : World) (p : List (List ℕ)) (n : ℕ) (kind : Kind) (mode count : ℕ) (bytes : List ℕ)
    → finmap.get w.paths p ≡ Some n → IsSomeAnd (file_at w p) (λ f. f.kind ≡ kind) → IsSomeAnd (file_at w p) (λ f. f.mode ≡ mode)
    → links w n ≡ count → IsSomeAnd (file_at w p) (λ f. f.bytes ≡ bytes) → Stat n kind mode count (length bytes) ≡ stat_of w p
unfolding stat_of
stat-told w p n kind mode count bytes number_is kind_is mode_is links_is bytes_is =
    by (finmap.get w.files n) (there (λ f. f.kind ≡ kind) kind_is) (there (λ f. f.mode ≡ mode) mode_is) (there (λ f. f.bytes ≡ bytes) bytes_is)
    ∙ ap stat (sym number_is)
  where
    told : ℕ → Option File → Answer
    told m o = option_map_or (λ (f : File). Stat m f.kind f.mode (links w m) (length f.bytes)) o Done

    stat : Option ℕ → Answer
    stat o = option_map_or (λ m. told m (finmap.get w.files m)) o Done

    there : (P : File → Type 0) → IsSomeAnd (file_at w p) P → IsSomeAnd (finmap.get w.files n) P
    there P = subst (λ o. IsSomeAnd (option_and_then (finmap.get w.files) o) P) number_is

    by : (o : Option File) → IsSomeAnd o (λ f. f.kind ≡ kind) → IsSomeAnd o (λ f. f.mode ≡ mode)
        → IsSomeAnd o (λ f. f.bytes ≡ bytes) → Stat n kind mode count (length bytes) ≡ told n o
    by None k m b = absurd k
    by (Some f) k m b =
        λ i. Stat n (sym k i) (sym m i) (sym links_is i) (length (sym b i))

pub same-some : (n m : ℕ) → Some n ≡ Some m → n ≡ m
same-some n m e = cc
