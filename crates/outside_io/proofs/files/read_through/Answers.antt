use Rattle.std.proofs.Common.{rules, ◌≡◌, ◌∙◌, ℕ, ◌+◌, ◌-◌, ◌≤◌, List, ◌++◌, length, take, drop, slice_range, Option, Some, None, IfSome, ap, sym, refl, arith, length-take, length-drop}
use Rattle.std.proofs.Math.Seq.{take-add, take-append_seam}
use Rattle.outside_io.proofs.files.read_through.Goals as goal

-- the beginning of a buffer into which bytes were read
read_front : (file old : List ℕ) (taken count : ℕ) → taken + count ≤ length file →
    take count (slice_range file taken (taken + count) ++ drop count old) ≡ take count (drop taken file)
read_front file old taken count h =
    let e : taken + count - taken ≡ count = omega arith in
    let whole : length (take count (drop taken file)) ≡ count = simp (length-take, length-drop) (omega arith) in
    rw e (ap (λ n. take n (take count (drop taken file) ++ drop count old)) (sym whole) ∙ take-append_seam (take count (drop taken file)) (drop count old))

-- what was read before, with the bytes of one more read
read_on : (first now : Option (List ℕ)) (place taken count total : ℕ) (bytes longer old new piece : List ℕ) → now ≡ first → taken ≡ place →
    IfSome first (λ file. (bytes ≡ take place file) × (place ≤ length file)) →
    IfSome now (λ file. (taken + count ≤ length file) × (new ≡ slice_range file taken (taken + count) ++ drop count old)) →
    piece ≡ take count new → longer ≡ bytes ++ piece → total ≡ place + length piece →
    IfSome first (λ file. (longer ≡ take total file) × (total ≤ length file))
read_on None now place taken count total bytes longer old new piece same at before read e f g = tt
read_on (Some file) now place taken count total bytes longer old new piece same at before read0 e f g =
    let read = rw (same, at) at read0 in
    let piece_is : piece ≡ take count (drop place file) = e ∙ rw read.1 (read_front file old place count read.0) in
    let whole : length (take count (drop place file)) ≡ count = simp (length-take, length-drop) (omega (arith, read.0)) in
    let total_is : total ≡ place + count = g ∙ rw (piece_is, whole) refl in
    (f ∙ rw (piece_is, total_is, before.0, take-add place count file) refl, rw total_is read.0)

pub loop-bytes-preserved : goal.loop-bytes-preserved
loop-bytes-preserved g c = record {
  same = search rules;
  faults = search rules;
  taken = search rules;
  within = search rules;
  read = read_on _ _ _ _ c.in-Ok.count _ _ _ _ _ _ c.loop-bytes.invariant.same.current c.loop-bytes.invariant.taken c.loop-bytes.invariant.read c.in-Ok.ensures.bytes
      refl c.in_ok-extend_from_slice.ensures.items c.in_ok-extend_from_slice.ensures.len;
}

pub returns : goal.returns
returns g c = search rules

pub returns-in-Err : goal.returns-in-Err
returns-in-Err g c = search rules
