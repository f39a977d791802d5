use Rattle.std.proofs.Common.{rules, ◌≡◌, ◌<◌, ◌^◌, Some, None, arith}
use Rattle.text_lines.specs.Numbers.{natural_of}
use Rattle.plan_text.proofs.LineReads.{pair_unparted, pair_unread_first, pair_unread_second, pair_found}
use Rattle.plan_text.proofs.head.pair_round.Goals as goal

pub returns-in_default : goal.returns-in_default
returns-in_default c =
    let small : c.args.most_first < 10 ^ 64 = omega (arith, c.ranges.most_first.fits) in
    let few : c.args.most_second < 10 ^ 64 = omega (arith, c.ranges.most_second.fits) in
    pair_unparted c.args.by c.args.most_first c.args.most_second c.requires small few c.args.text.now c.in_default.ensures

pub returns-in_default-natural_of : goal.returns-in_default-natural_of
returns-in_default-natural_of c =
    let small : c.args.most_first < 10 ^ 64 = omega (arith, c.ranges.most_first.fits) in
    let few : c.args.most_second < 10 ^ 64 = omega (arith, c.ranges.most_second.fits) in
    let none : natural_of c.args.most_first c.in-Some.left.now ≡ None = search rules in
    pair_unread_first c.args.by c.args.most_first c.args.most_second c.requires small few c.args.text.now c.in-Some.left.now c.in-Some.right.now c.in-Some.ensures
    (c.numbers_are_read_as_printed.ensures c.args.most_first c.ranges.most_first.fits) none

pub returns-in_default-natural_of-2 : goal.returns-in_default-natural_of-2
returns-in_default-natural_of-2 c =
    let small : c.args.most_first < 10 ^ 64 = omega (arith, c.ranges.most_first.fits) in
    let few : c.args.most_second < 10 ^ 64 = omega (arith, c.ranges.most_second.fits) in
    let none : natural_of c.args.most_second c.in-Some.right.now ≡ None = search rules in
    pair_unread_second c.args.by c.args.most_first c.args.most_second c.requires small few c.args.text.now c.in-Some.left.now c.in-Some.right.now c.in-Some.ensures
    (c.numbers_are_read_as_printed.ensures c.args.most_second c.ranges.most_second.fits) none

pub returns : goal.returns
returns c =
    let small : c.args.most_first < 10 ^ 64 = omega (arith, c.ranges.most_first.fits) in
    let few : c.args.most_second < 10 ^ 64 = omega (arith, c.ranges.most_second.fits) in
    let first : natural_of c.args.most_first c.in-Some.left.now ≡ Some c.in-Some-natural_of.first = search rules in
    let second : natural_of c.args.most_second c.in-Some.right.now ≡ Some c.in-Some-natural_of-2.second = search rules in
    pair_found c.args.by c.args.most_first c.args.most_second c.requires small few c.args.text.now c.in-Some.left.now c.in-Some.right.now c.in-Some.ensures
    (c.numbers_are_read_as_printed.ensures c.args.most_first c.ranges.most_first.fits) (c.numbers_are_read_as_printed.ensures c.args.most_second c.ranges.most_second.fits)
    c.in-Some-natural_of.first c.in-Some-natural_of-2.second first second
