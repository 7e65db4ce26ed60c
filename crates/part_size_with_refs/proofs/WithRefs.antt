-- frame_size_with_refs(): the loop over its flags, the slots, and how it goes on after the flags.
-- Assumes nothing.
use Prim.Native.Nat.{ℕ, ◌≤◌, ◌<◌, suc}
use mathlib.Core.Path.{◌≡◌, refl, sym, ap, ◌∙◌}
use mathlib.Core.List.{List}
use native.Mathlib.Omega.{arith}
use borrow.Author.Tests.{ne_eqb}
use Rattle.base_bits.specs.declared.Cursor.{Cursor}
use Rattle.base_bits.specs.declared.Refusal.{Refusal}
use Rattle.std.specs.Prelude.{Result, Ok, Err, Option, Some, None}
use Rattle.std.specs.Result.{IsErrAnd, result_from_control_flow}
use Rattle.std.proofs.Common.{Continue, Break}
use Rattle.std.proofs.lemmas.Result.{err_from_is_err_and}
use Rattle.base_bits.specs.Read.{read_bits}
use Rattle.part_field.specs.PastEnd.{past_end}
use Rattle.base_syntax.specs.Reader.{Read, read, stopped, bind, group_if, over, alter, Reader, give, field, field_if, ◌>>=◌, said}
use Rattle.base_shared.specs.Choice.{pick}
use Rattle.base_syntax.proofs.Steps.{group_step, group_stop, tail, alter_over}
use Rattle.grammar_tables.specs.Reading.{read_run, no_size_values, read_frame_size, read_render, read_found}
use Rattle.part_coded.proofs.Run.{Counted, counted_full, counted_short}
use Rattle.base_size.specs.declared.FrameSize.{FrameSize}
use Rattle.part_refs.specs.declared.Refs.{Refs}
use Rattle.part_sizes.specs.declared.Sizes.{Sizes}
use Rattle.grammar_tables.specs.Tables.{RenderValues, FoundValues, found_at}
use Rattle.part_sizes.specs.Sizes.{read_sizes, with_render, sizes_of}
use Rattle.part_size_with_refs.specs.SizeWithRefs.{read_size_with_refs, slot_size, ref_slot, size_with_refs_of, of_three, found_ref}
use mathlib.Core.Bool.{Bool, true, false, ◌&&◌}
use lib.Dec.{eqb}
use Rattle.base_bits.specs.Refusal.{item}

-- the flags as a run of those that are 0: how many there are is the number of the reference
module _ (s : List ℕ) where
  abbrev run : ℕ → (n : ℕ) → Reader ℕ
  run = read_run "found_ref" 0

  abbrev flags : ℕ → ℕ → ℕ → FoundValues
  flags l g a = record { last = l; golden = g; altref = a }

  more : (f : ℕ → ℕ) (m : Read ℕ) → over f (bind m (λ k n. read (suc k) n)) ≡ over (λ k. f (suc k)) m
  more f (read k n) = refl
  more f (stopped w) = refl

  third : (l g p : ℕ) → eqb l 0 ≡ true → eqb g 0 ≡ true → over (λ k. suc (suc k)) (run 2 1 s p) ≡ over found_at (bind (field (item "found_ref" 2) 1 s p) (λ a n. read (flags l g a) n))
  unfolding read_run found_at
  third l g p el eg = go (field (item "found_ref" 2) 1 s p)
    where
      bit : (a n : ℕ) (b : Bool) → eqb a 0 ≡ b → over (λ k. suc (suc k)) (pick (eqb a 0) (run 3 0 >>= λ k. give (suc k)) (give 0) s n) ≡ Ok (found_at (flags l g a), record { at = n })
      bit a n true ea = rw (ea, el, eg)
      bit a n false ea = rw (ea, el, eg)

      go : (x : Read ℕ) → over (λ k. suc (suc k)) (bind x (λ a n. pick (eqb a 0) (run 3 0 >>= λ k. give (suc k)) (give 0) s n)) ≡ over found_at (bind x (λ a n. read (flags l g a) n))
      go (stopped w) = refl
      go (read a n) = bit a n (eqb a 0) refl

  second : (l p : ℕ) → eqb l 0 ≡ true → over (λ k. suc k) (run 1 2 s p) ≡ over found_at (bind (field (item "found_ref" 1) 1 s p) (λ g m. bind (field_if (eqb g 0) (item "found_ref" 2) 1 s m) (λ a n. read (flags l g a) n)))
  unfolding read_run found_at field_if
  second l p el = go (field (item "found_ref" 1) 1 s p)
    where
      bit : (g n : ℕ) (b : Bool) → eqb g 0 ≡ b
          → over (λ k. suc k) (pick (eqb g 0) (run 2 1 >>= λ k. give (suc k)) (give 0) s n) ≡ over found_at (bind (field_if (eqb g 0) (item "found_ref" 2) 1 s n) (λ a m. read (flags l g a) m))
      bit g n true eg = rw eg (more suc (run 2 1 s n) ∙ third l g n el eg)
      bit g n false eg = rw (eg, el, eg)

      go : (x : Read ℕ) → over (λ k. suc k) (bind x (λ g n. pick (eqb g 0) (run 2 1 >>= λ k. give (suc k)) (give 0) s n))
          ≡ over found_at (bind x (λ g m. bind (field_if (eqb g 0) (item "found_ref" 2) 1 s m) (λ a n. read (flags l g a) n)))
      go (stopped w) = refl
      go (read g n) = bit g n (eqb g 0) refl

  found_run : (p : ℕ) (x : Result (ℕ × Cursor) Refusal) → x ≡ over (λ k. k) (run 0 3 s p) → x ≡ over found_at (read_found s p)
  unfolding read_run found_at field_if read_found
  found_run p x e = e ∙ go (field (item "found_ref" 0) 1 s p)
    where
      bit : (l n : ℕ) (b : Bool) → eqb l 0 ≡ b
          → over (λ k. k) (pick (eqb l 0) (run 1 2 >>= λ k. give (suc k)) (give 0) s n)
          ≡ over found_at (bind (field_if (eqb l 0) (item "found_ref" 1) 1 s n) (λ g m. bind (field_if (eqb l 0 && eqb g 0) (item "found_ref" 2) 1 s m) (λ a q. read (flags l g a) q)))
      bit l n true el = rw el (more (λ k. k) (run 1 2 s n) ∙ second l n el)
      bit l n false el = rw (el, el)

      go : (x : Read ℕ) → over (λ k. k) (bind x (λ l n. pick (eqb l 0) (run 1 2 >>= λ k. give (suc k)) (give 0) s n))
          ≡ over found_at (bind x (λ l n. bind (field_if (eqb l 0) (item "found_ref" 1) 1 s n) (λ g m. bind (field_if (eqb l 0 && eqb g 0) (item "found_ref" 2) 1 s m) (λ a q. read (flags l g a) q))))
      go (stopped w) = refl
      go (read l n) = bit l n (eqb l 0) refl

  -- the reference that is found, from what the loop counted
  module _ (p : ℕ) where
    as_found : (r : Result (ℕ × Cursor) Refusal) → r ≡ over (λ k. k) (run 0 3 s p) → alter of_three r ≡ over found_ref (read_found s p)
    as_found r e = ap (alter of_three) (found_run p r e) ∙ alter_over said of_three found_at (read_found s p)

    pub found_one : (i : ℕ) (c : Cursor) → i < 3 → Ok (i, c) ≡ over (λ k. k) (run 0 3 s p) → Ok (Some i, c) ≡ over found_ref (read_found s p)
    found_one i c l e = rw (ne_eqb i 3 (λ z. omega arith)) at (as_found _ e)

    pub found_nothing : {k : ℕ} (c : Cursor) → Counted "found_ref" 0 3 s p k c.at → 3 ≤ k → Ok (None, c) ≡ over found_ref (read_found s p)
    found_nothing {k} c l h = let z : k ≡ 3 = omega (arith, l.within) in rw z at (as_found _ (counted_full l h))

    pub found_short : {k q : ℕ} → Counted "found_ref" 0 3 s p k q → k < 3 → (r : Result (ℕ × Cursor) Refusal) → r ≡ past_end (read_bits s q 1) → {d : _} → r ≡ result_from_control_flow d
        → {u : _} (y : Result (Option ℕ × Cursor) Refusal) → d ≡ Break u → IsErrAnd y (λ w. w ≡ u.0) → y ≡ over found_ref (read_found s p)
    found_short l h r e f {u} y t i = let j = err_from_is_err_and y i in rw (j.1, j.2) (as_found _ (counted_short l h r e f (Err u.0) t refl))

-- two readings that differ only in how they go on
alike : {A B C D : Type 0} (f : B → D) (g : C → D) (k : A → ℕ → Read B) (l : A → ℕ → Read C) (m : Read A)
    → ((a : A) (p : ℕ) → over f (k a p) ≡ over g (l a p)) → over f (bind m k) ≡ over g (bind m l)
alike f g k l (read a p) h = h a p
alike f g k l (stopped w) h = refl

-- a reference that is found is the one that the flags give, and is one of the three
is_one : (i k : ℕ) → Some i ≡ of_three k → (eqb k 3 ≡ false) × (i ≡ k)
is_one i k e = go (eqb k 3) refl e
  where
    go : (b : Bool) → eqb k 3 ≡ b → Some i ≡ pick b None (Some k) → (eqb k 3 ≡ false) × (i ≡ k)
    go true h e = let z : ◌≡◌ {A = ℕ} 0 1 = cc in absurd (omega arith)
    go false h e = (h, cc)

is_none : (k : ℕ) → None ≡ of_three k → eqb k 3 ≡ true
is_none k e = go (eqb k 3) refl e
  where
    go : (b : Bool) → eqb k 3 ≡ b → None ≡ pick b None (Some k) → eqb k 3 ≡ true
    go true h e = h
    go false h e = let z : ◌≡◌ {A = ℕ} 0 1 = cc in absurd (omega arith)

module _ (slots : List FrameSize) (refs : Refs) (s : List ℕ) (p : ℕ) (r : Result (Option ℕ × Cursor) Refusal) (e : r ≡ over found_ref (read_found s p)) {b : _} (v : Option ℕ) (c : Cursor) (d : r ≡ result_from_control_flow b) (h : b ≡ Continue (v, c)) (o : Result (Sizes × Cursor) Refusal) where
  -- at the reference i
  module _ (i : ℕ) (vi : v ≡ Some i) (frame : FrameSize) (slot : ℕ) (es : slot ≡ ref_slot refs i) (ef : frame ≡ slot_size slots slot) where
    found_size_lem : (q : ℕ) (a : FoundValues) (b : RenderValues) → eqb (found_at a) 3 ≡ false → i ≡ found_at a
        → over (with_render frame) (read b q) ≡ over (size_with_refs_of slots refs) (read (record { found_ref = a; size = no_size_values; render = b }) q)
    unfolding size_with_refs_of
    found_size_lem q a b n ia = rw (n, ← ia, ef, es)

    pub found_at_lem : o ≡ over (with_render frame) (read_render s c.at) → o ≡ over (size_with_refs_of slots refs) (read_size_with_refs s p)
    unfolding read_size_with_refs group_if
    found_at_lem eo =
        group_step said found_ref (read_found s p) (size_with_refs_of slots refs) _ r e (v, c) o d h λ a va.
        let m = is_one i (found_at a) (sym vi ∙ va) in
        rw m.0
        (tail said (size_with_refs_of slots refs) _ (with_render frame) (read_render s c.at) o eo (λ b q. found_size_lem q a b m.0 m.1))

  -- at none
  pub found_none : v ≡ None → o ≡ over sizes_of (read_sizes s c.at) → o ≡ over (size_with_refs_of slots refs) (read_size_with_refs s p)
  unfolding read_size_with_refs group_if read_sizes sizes_of size_with_refs_of
  found_none vn eo =
      group_step said found_ref (read_found s p) (size_with_refs_of slots refs) _ r e (v, c) o d h λ a va.
      let n = is_none (found_at a) (sym vn ∙ va) in
      rw n (eo ∙ alike _ _ _ _ (read_frame_size s c.at) (λ z q. alike _ _ _ _ (read_render s q) (λ b m. rw n)))

-- the flags aren't all there
pub found_stop : (slots : List FrameSize) (refs : Refs) (s : List ℕ) (p : ℕ) (r : Result (Option ℕ × Cursor) Refusal) → r ≡ over found_ref (read_found s p) → {b : _} {z : _} (o : Result (Sizes × Cursor) Refusal) → r ≡ result_from_control_flow b → b ≡ Break z → IsErrAnd o (λ w. w ≡ z.0) → o ≡ over (size_with_refs_of slots refs) (read_size_with_refs s p)
unfolding read_size_with_refs
found_stop slots refs s p r e = group_stop said found_ref (read_found s p) (size_with_refs_of slots refs) _ r e
