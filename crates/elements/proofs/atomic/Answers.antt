-- `elements::atomic` meets its contract: each symbol's arm computed; other letters fail a test that all symbols pass. Assumes nothing.
use mathlib.Core.List.{[], ◌∷◌}
use native.Mathlib.Omega.{arith}
use Rattle.rules.specs.Bytes.{bytes}
use Rattle.rules.specs.Elements.{symbols}
use Rattle.elements.specs.Numbers.{number_in, atomic_of}
use Rattle.elements.proofs.Cases.{hit, miss, miss_first, outside}
use Rattle.elements.proofs.atomic.Goals as goal

pub returns-in-1-to-96 : goal.returns-in-1-to-96
returns-in-1-to-96 c = outside 1 97 tt _ _ c.in-1-to-96.if-b-lt1-own.false c.in-1-to-96.if-b-lt97-own.true

pub returns-in-1-to-96-2 : goal.returns-in-1-to-96-2
returns-in-1-to-96-2 c = outside 123 256 tt c.args.a c.args.b c.in-1-to-96.if-b-lt123-own.false (omega (arith, c.ranges.b))

pub returns-in-99 : goal.returns-in-99
unfolding atomic_of number_in symbols
returns-in-99 c = hit "Ac" c.in-65.is c.in-99.is

pub returns-in-103 : goal.returns-in-103
unfolding atomic_of number_in symbols
returns-in-103 c = hit "Ag" c.in-65.is c.in-103.is

pub returns-in-108 : goal.returns-in-108
unfolding atomic_of number_in symbols
returns-in-108 c = hit "Al" c.in-65.is c.in-108.is

pub returns-in-109 : goal.returns-in-109
unfolding atomic_of number_in symbols
returns-in-109 c = hit "Am" c.in-65.is c.in-109.is

pub returns-in-114 : goal.returns-in-114
unfolding atomic_of number_in symbols
returns-in-114 c = hit "Ar" c.in-65.is c.in-114.is

pub returns-in-115 : goal.returns-in-115
unfolding atomic_of number_in symbols
returns-in-115 c = hit "As" c.in-65.is c.in-115.is

pub returns-in-116 : goal.returns-in-116
unfolding atomic_of number_in symbols
returns-in-116 c = hit "At" c.in-65.is c.in-116.is

pub returns-in-117 : goal.returns-in-117
unfolding atomic_of number_in symbols
returns-in-117 c = hit "Au" c.in-65.is c.in-117.is

pub returns-in_default-b : goal.returns-in_default-b
unfolding symbols
returns-in_default-b c = miss "A" (bytes "cglmrstu") tt _ _ c.in-65.is c.in_default-b.in_default-b-own.rest

pub returns-in-0 : goal.returns-in-0
unfolding atomic_of number_in symbols
returns-in-0 c = hit "B" c.in-66.is c.in-0.is

pub returns-in-97 : goal.returns-in-97
unfolding atomic_of number_in symbols
returns-in-97 c = hit "Ba" c.in-66.is c.in-97.is

pub returns-in-101 : goal.returns-in-101
unfolding atomic_of number_in symbols
returns-in-101 c = hit "Be" c.in-66.is c.in-101.is

pub returns-in-104 : goal.returns-in-104
unfolding atomic_of number_in symbols
returns-in-104 c = hit "Bh" c.in-66.is c.in-104.is

pub returns-in-105 : goal.returns-in-105
unfolding atomic_of number_in symbols
returns-in-105 c = hit "Bi" c.in-66.is c.in-105.is

pub returns-in-107 : goal.returns-in-107
unfolding atomic_of number_in symbols
returns-in-107 c = hit "Bk" c.in-66.is c.in-107.is

pub returns-in-114-b : goal.returns-in-114-b
unfolding atomic_of number_in symbols
returns-in-114-b c = hit "Br" c.in-66.is c.in-114-b.is

pub returns-in_default-b-2 : goal.returns-in_default-b-2
unfolding symbols
returns-in_default-b-2 c = miss "B" (0 ∷ bytes "aehikr") tt _ _ c.in-66.is c.in_default-b-2.in_default-b-2-own.rest

pub returns-in-0-b : goal.returns-in-0-b
unfolding atomic_of number_in symbols
returns-in-0-b c = hit "C" c.in-67.is c.in-0-b.is

pub returns-in-97-b : goal.returns-in-97-b
unfolding atomic_of number_in symbols
returns-in-97-b c = hit "Ca" c.in-67.is c.in-97-b.is

pub returns-in-100 : goal.returns-in-100
unfolding atomic_of number_in symbols
returns-in-100 c = hit "Cd" c.in-67.is c.in-100.is

pub returns-in-101-b : goal.returns-in-101-b
unfolding atomic_of number_in symbols
returns-in-101-b c = hit "Ce" c.in-67.is c.in-101-b.is

pub returns-in-102 : goal.returns-in-102
unfolding atomic_of number_in symbols
returns-in-102 c = hit "Cf" c.in-67.is c.in-102.is

pub returns-in-108-b : goal.returns-in-108-b
unfolding atomic_of number_in symbols
returns-in-108-b c = hit "Cl" c.in-67.is c.in-108-b.is

pub returns-in-109-b : goal.returns-in-109-b
unfolding atomic_of number_in symbols
returns-in-109-b c = hit "Cm" c.in-67.is c.in-109-b.is

pub returns-in-110 : goal.returns-in-110
unfolding atomic_of number_in symbols
returns-in-110 c = hit "Cn" c.in-67.is c.in-110.is

pub returns-in-111 : goal.returns-in-111
unfolding atomic_of number_in symbols
returns-in-111 c = hit "Co" c.in-67.is c.in-111.is

pub returns-in-114-b-2 : goal.returns-in-114-b-2
unfolding atomic_of number_in symbols
returns-in-114-b-2 c = hit "Cr" c.in-67.is c.in-114-b-2.is

pub returns-in-115-b : goal.returns-in-115-b
unfolding atomic_of number_in symbols
returns-in-115-b c = hit "Cs" c.in-67.is c.in-115-b.is

pub returns-in-117-b : goal.returns-in-117-b
unfolding atomic_of number_in symbols
returns-in-117-b c = hit "Cu" c.in-67.is c.in-117-b.is

pub returns-in_default-b-3 : goal.returns-in_default-b-3
unfolding symbols
returns-in_default-b-3 c = miss "C" (0 ∷ bytes "adeflmnorsu") tt _ _ c.in-67.is c.in_default-b-3.in_default-b-3-own.rest

pub returns-in-98 : goal.returns-in-98
unfolding atomic_of number_in symbols
returns-in-98 c = hit "Db" c.in-68.is c.in-98.is

pub returns-in-115-b-2 : goal.returns-in-115-b-2
unfolding atomic_of number_in symbols
returns-in-115-b-2 c = hit "Ds" c.in-68.is c.in-115-b-2.is

pub returns-in-121 : goal.returns-in-121
unfolding atomic_of number_in symbols
returns-in-121 c = hit "Dy" c.in-68.is c.in-121.is

pub returns-in_default-b-4 : goal.returns-in_default-b-4
unfolding symbols
returns-in_default-b-4 c = miss "D" (bytes "bsy") tt _ _ c.in-68.is c.in_default-b-4.in_default-b-4-own.rest

pub returns-in-114-b-3 : goal.returns-in-114-b-3
unfolding atomic_of number_in symbols
returns-in-114-b-3 c = hit "Er" c.in-69.is c.in-114-b-3.is

pub returns-in-115-b-3 : goal.returns-in-115-b-3
unfolding atomic_of number_in symbols
returns-in-115-b-3 c = hit "Es" c.in-69.is c.in-115-b-3.is

pub returns-in-117-b-2 : goal.returns-in-117-b-2
unfolding atomic_of number_in symbols
returns-in-117-b-2 c = hit "Eu" c.in-69.is c.in-117-b-2.is

pub returns-in_default-b-5 : goal.returns-in_default-b-5
unfolding symbols
returns-in_default-b-5 c = miss "E" (bytes "rsu") tt _ _ c.in-69.is c.in_default-b-5.in_default-b-5-own.rest

pub returns-in-0-b-2 : goal.returns-in-0-b-2
unfolding atomic_of number_in symbols
returns-in-0-b-2 c = hit "F" c.in-70.is c.in-0-b-2.is

pub returns-in-101-b-2 : goal.returns-in-101-b-2
unfolding atomic_of number_in symbols
returns-in-101-b-2 c = hit "Fe" c.in-70.is c.in-101-b-2.is

pub returns-in-108-b-2 : goal.returns-in-108-b-2
unfolding atomic_of number_in symbols
returns-in-108-b-2 c = hit "Fl" c.in-70.is c.in-108-b-2.is

pub returns-in-109-b-2 : goal.returns-in-109-b-2
unfolding atomic_of number_in symbols
returns-in-109-b-2 c = hit "Fm" c.in-70.is c.in-109-b-2.is

pub returns-in-114-b-4 : goal.returns-in-114-b-4
unfolding atomic_of number_in symbols
returns-in-114-b-4 c = hit "Fr" c.in-70.is c.in-114-b-4.is

pub returns-in_default-b-6 : goal.returns-in_default-b-6
unfolding symbols
returns-in_default-b-6 c = miss "F" (0 ∷ bytes "elmr") tt _ _ c.in-70.is c.in_default-b-6.in_default-b-6-own.rest

pub returns-in-97-b-2 : goal.returns-in-97-b-2
unfolding atomic_of number_in symbols
returns-in-97-b-2 c = hit "Ga" c.in-71.is c.in-97-b-2.is

pub returns-in-100-b : goal.returns-in-100-b
unfolding atomic_of number_in symbols
returns-in-100-b c = hit "Gd" c.in-71.is c.in-100-b.is

pub returns-in-101-b-3 : goal.returns-in-101-b-3
unfolding atomic_of number_in symbols
returns-in-101-b-3 c = hit "Ge" c.in-71.is c.in-101-b-3.is

pub returns-in_default-b-7 : goal.returns-in_default-b-7
unfolding symbols
returns-in_default-b-7 c = miss "G" (bytes "ade") tt _ _ c.in-71.is c.in_default-b-7.in_default-b-7-own.rest

pub returns-in-0-b-3 : goal.returns-in-0-b-3
unfolding atomic_of number_in symbols
returns-in-0-b-3 c = hit "H" c.in-72.is c.in-0-b-3.is

pub returns-in-101-b-4 : goal.returns-in-101-b-4
unfolding atomic_of number_in symbols
returns-in-101-b-4 c = hit "He" c.in-72.is c.in-101-b-4.is

pub returns-in-102-b : goal.returns-in-102-b
unfolding atomic_of number_in symbols
returns-in-102-b c = hit "Hf" c.in-72.is c.in-102-b.is

pub returns-in-103-b : goal.returns-in-103-b
unfolding atomic_of number_in symbols
returns-in-103-b c = hit "Hg" c.in-72.is c.in-103-b.is

pub returns-in-111-b : goal.returns-in-111-b
unfolding atomic_of number_in symbols
returns-in-111-b c = hit "Ho" c.in-72.is c.in-111-b.is

pub returns-in-115-b-4 : goal.returns-in-115-b-4
unfolding atomic_of number_in symbols
returns-in-115-b-4 c = hit "Hs" c.in-72.is c.in-115-b-4.is

pub returns-in_default-b-8 : goal.returns-in_default-b-8
unfolding symbols
returns-in_default-b-8 c = miss "H" (0 ∷ bytes "efgos") tt _ _ c.in-72.is c.in_default-b-8.in_default-b-8-own.rest

pub returns-in-0-b-4 : goal.returns-in-0-b-4
unfolding atomic_of number_in symbols
returns-in-0-b-4 c = hit "I" c.in-73.is c.in-0-b-4.is

pub returns-in-110-b : goal.returns-in-110-b
unfolding atomic_of number_in symbols
returns-in-110-b c = hit "In" c.in-73.is c.in-110-b.is

pub returns-in-114-b-5 : goal.returns-in-114-b-5
unfolding atomic_of number_in symbols
returns-in-114-b-5 c = hit "Ir" c.in-73.is c.in-114-b-5.is

pub returns-in_default-b-9 : goal.returns-in_default-b-9
unfolding symbols
returns-in_default-b-9 c = miss "I" (0 ∷ bytes "nr") tt _ _ c.in-73.is c.in_default-b-9.in_default-b-9-own.rest

pub returns-in-74 : goal.returns-in-74
unfolding symbols
returns-in-74 c = miss "J" [] tt _ _ c.in-74.is tt

pub returns-in-0-b-5 : goal.returns-in-0-b-5
unfolding atomic_of number_in symbols
returns-in-0-b-5 c = hit "K" c.in-75.is c.in-0-b-5.is

pub returns-in-114-b-6 : goal.returns-in-114-b-6
unfolding atomic_of number_in symbols
returns-in-114-b-6 c = hit "Kr" c.in-75.is c.in-114-b-6.is

pub returns-in_default-b-10 : goal.returns-in_default-b-10
unfolding symbols
returns-in_default-b-10 c = miss "K" (0 ∷ bytes "r") tt _ _ c.in-75.is c.in_default-b-10.in_default-b-10-own.rest

pub returns-in-97-b-3 : goal.returns-in-97-b-3
unfolding atomic_of number_in symbols
returns-in-97-b-3 c = hit "La" c.in-76.is c.in-97-b-3.is

pub returns-in-105-b : goal.returns-in-105-b
unfolding atomic_of number_in symbols
returns-in-105-b c = hit "Li" c.in-76.is c.in-105-b.is

pub returns-in-114-b-7 : goal.returns-in-114-b-7
unfolding atomic_of number_in symbols
returns-in-114-b-7 c = hit "Lr" c.in-76.is c.in-114-b-7.is

pub returns-in-117-b-3 : goal.returns-in-117-b-3
unfolding atomic_of number_in symbols
returns-in-117-b-3 c = hit "Lu" c.in-76.is c.in-117-b-3.is

pub returns-in-118 : goal.returns-in-118
unfolding atomic_of number_in symbols
returns-in-118 c = hit "Lv" c.in-76.is c.in-118.is

pub returns-in_default-b-11 : goal.returns-in_default-b-11
unfolding symbols
returns-in_default-b-11 c = miss "L" (bytes "airuv") tt _ _ c.in-76.is c.in_default-b-11.in_default-b-11-own.rest

pub returns-in-99-b : goal.returns-in-99-b
unfolding atomic_of number_in symbols
returns-in-99-b c = hit "Mc" c.in-77.is c.in-99-b.is

pub returns-in-100-b-2 : goal.returns-in-100-b-2
unfolding atomic_of number_in symbols
returns-in-100-b-2 c = hit "Md" c.in-77.is c.in-100-b-2.is

pub returns-in-103-b-2 : goal.returns-in-103-b-2
unfolding atomic_of number_in symbols
returns-in-103-b-2 c = hit "Mg" c.in-77.is c.in-103-b-2.is

pub returns-in-110-b-2 : goal.returns-in-110-b-2
unfolding atomic_of number_in symbols
returns-in-110-b-2 c = hit "Mn" c.in-77.is c.in-110-b-2.is

pub returns-in-111-b-2 : goal.returns-in-111-b-2
unfolding atomic_of number_in symbols
returns-in-111-b-2 c = hit "Mo" c.in-77.is c.in-111-b-2.is

pub returns-in-116-b : goal.returns-in-116-b
unfolding atomic_of number_in symbols
returns-in-116-b c = hit "Mt" c.in-77.is c.in-116-b.is

pub returns-in_default-b-12 : goal.returns-in_default-b-12
unfolding symbols
returns-in_default-b-12 c = miss "M" (bytes "cdgnot") tt _ _ c.in-77.is c.in_default-b-12.in_default-b-12-own.rest

pub returns-in-0-b-6 : goal.returns-in-0-b-6
unfolding atomic_of number_in symbols
returns-in-0-b-6 c = hit "N" c.in-78.is c.in-0-b-6.is

pub returns-in-97-b-4 : goal.returns-in-97-b-4
unfolding atomic_of number_in symbols
returns-in-97-b-4 c = hit "Na" c.in-78.is c.in-97-b-4.is

pub returns-in-98-b : goal.returns-in-98-b
unfolding atomic_of number_in symbols
returns-in-98-b c = hit "Nb" c.in-78.is c.in-98-b.is

pub returns-in-100-b-3 : goal.returns-in-100-b-3
unfolding atomic_of number_in symbols
returns-in-100-b-3 c = hit "Nd" c.in-78.is c.in-100-b-3.is

pub returns-in-101-b-5 : goal.returns-in-101-b-5
unfolding atomic_of number_in symbols
returns-in-101-b-5 c = hit "Ne" c.in-78.is c.in-101-b-5.is

pub returns-in-104-b : goal.returns-in-104-b
unfolding atomic_of number_in symbols
returns-in-104-b c = hit "Nh" c.in-78.is c.in-104-b.is

pub returns-in-105-b-2 : goal.returns-in-105-b-2
unfolding atomic_of number_in symbols
returns-in-105-b-2 c = hit "Ni" c.in-78.is c.in-105-b-2.is

pub returns-in-111-b-3 : goal.returns-in-111-b-3
unfolding atomic_of number_in symbols
returns-in-111-b-3 c = hit "No" c.in-78.is c.in-111-b-3.is

pub returns-in-112 : goal.returns-in-112
unfolding atomic_of number_in symbols
returns-in-112 c = hit "Np" c.in-78.is c.in-112.is

pub returns-in_default-b-13 : goal.returns-in_default-b-13
unfolding symbols
returns-in_default-b-13 c = miss "N" (0 ∷ bytes "abdehiop") tt _ _ c.in-78.is c.in_default-b-13.in_default-b-13-own.rest

pub returns-in-0-b-7 : goal.returns-in-0-b-7
unfolding atomic_of number_in symbols
returns-in-0-b-7 c = hit "O" c.in-79.is c.in-0-b-7.is

pub returns-in-103-b-3 : goal.returns-in-103-b-3
unfolding atomic_of number_in symbols
returns-in-103-b-3 c = hit "Og" c.in-79.is c.in-103-b-3.is

pub returns-in-115-b-5 : goal.returns-in-115-b-5
unfolding atomic_of number_in symbols
returns-in-115-b-5 c = hit "Os" c.in-79.is c.in-115-b-5.is

pub returns-in_default-b-14 : goal.returns-in_default-b-14
unfolding symbols
returns-in_default-b-14 c = miss "O" (0 ∷ bytes "gs") tt _ _ c.in-79.is c.in_default-b-14.in_default-b-14-own.rest

pub returns-in-0-b-8 : goal.returns-in-0-b-8
unfolding atomic_of number_in symbols
returns-in-0-b-8 c = hit "P" c.in-80.is c.in-0-b-8.is

pub returns-in-97-b-5 : goal.returns-in-97-b-5
unfolding atomic_of number_in symbols
returns-in-97-b-5 c = hit "Pa" c.in-80.is c.in-97-b-5.is

pub returns-in-98-b-2 : goal.returns-in-98-b-2
unfolding atomic_of number_in symbols
returns-in-98-b-2 c = hit "Pb" c.in-80.is c.in-98-b-2.is

pub returns-in-100-b-4 : goal.returns-in-100-b-4
unfolding atomic_of number_in symbols
returns-in-100-b-4 c = hit "Pd" c.in-80.is c.in-100-b-4.is

pub returns-in-109-b-3 : goal.returns-in-109-b-3
unfolding atomic_of number_in symbols
returns-in-109-b-3 c = hit "Pm" c.in-80.is c.in-109-b-3.is

pub returns-in-111-b-4 : goal.returns-in-111-b-4
unfolding atomic_of number_in symbols
returns-in-111-b-4 c = hit "Po" c.in-80.is c.in-111-b-4.is

pub returns-in-114-b-8 : goal.returns-in-114-b-8
unfolding atomic_of number_in symbols
returns-in-114-b-8 c = hit "Pr" c.in-80.is c.in-114-b-8.is

pub returns-in-116-b-2 : goal.returns-in-116-b-2
unfolding atomic_of number_in symbols
returns-in-116-b-2 c = hit "Pt" c.in-80.is c.in-116-b-2.is

pub returns-in-117-b-4 : goal.returns-in-117-b-4
unfolding atomic_of number_in symbols
returns-in-117-b-4 c = hit "Pu" c.in-80.is c.in-117-b-4.is

pub returns-in_default-b-15 : goal.returns-in_default-b-15
unfolding symbols
returns-in_default-b-15 c = miss "P" (0 ∷ bytes "abdmortu") tt _ _ c.in-80.is c.in_default-b-15.in_default-b-15-own.rest

pub returns-in-81 : goal.returns-in-81
unfolding symbols
returns-in-81 c = miss "Q" [] tt _ _ c.in-81.is tt

pub returns-in-97-b-6 : goal.returns-in-97-b-6
unfolding atomic_of number_in symbols
returns-in-97-b-6 c = hit "Ra" c.in-82.is c.in-97-b-6.is

pub returns-in-98-b-3 : goal.returns-in-98-b-3
unfolding atomic_of number_in symbols
returns-in-98-b-3 c = hit "Rb" c.in-82.is c.in-98-b-3.is

pub returns-in-101-b-6 : goal.returns-in-101-b-6
unfolding atomic_of number_in symbols
returns-in-101-b-6 c = hit "Re" c.in-82.is c.in-101-b-6.is

pub returns-in-102-b-2 : goal.returns-in-102-b-2
unfolding atomic_of number_in symbols
returns-in-102-b-2 c = hit "Rf" c.in-82.is c.in-102-b-2.is

pub returns-in-103-b-4 : goal.returns-in-103-b-4
unfolding atomic_of number_in symbols
returns-in-103-b-4 c = hit "Rg" c.in-82.is c.in-103-b-4.is

pub returns-in-104-b-2 : goal.returns-in-104-b-2
unfolding atomic_of number_in symbols
returns-in-104-b-2 c = hit "Rh" c.in-82.is c.in-104-b-2.is

pub returns-in-110-b-3 : goal.returns-in-110-b-3
unfolding atomic_of number_in symbols
returns-in-110-b-3 c = hit "Rn" c.in-82.is c.in-110-b-3.is

pub returns-in-117-b-5 : goal.returns-in-117-b-5
unfolding atomic_of number_in symbols
returns-in-117-b-5 c = hit "Ru" c.in-82.is c.in-117-b-5.is

pub returns-in_default-b-16 : goal.returns-in_default-b-16
unfolding symbols
returns-in_default-b-16 c = miss "R" (bytes "abefghnu") tt _ _ c.in-82.is c.in_default-b-16.in_default-b-16-own.rest

pub returns-in-0-b-9 : goal.returns-in-0-b-9
unfolding atomic_of number_in symbols
returns-in-0-b-9 c = hit "S" c.in-83.is c.in-0-b-9.is

pub returns-in-98-b-4 : goal.returns-in-98-b-4
unfolding atomic_of number_in symbols
returns-in-98-b-4 c = hit "Sb" c.in-83.is c.in-98-b-4.is

pub returns-in-99-b-2 : goal.returns-in-99-b-2
unfolding atomic_of number_in symbols
returns-in-99-b-2 c = hit "Sc" c.in-83.is c.in-99-b-2.is

pub returns-in-101-b-7 : goal.returns-in-101-b-7
unfolding atomic_of number_in symbols
returns-in-101-b-7 c = hit "Se" c.in-83.is c.in-101-b-7.is

pub returns-in-103-b-5 : goal.returns-in-103-b-5
unfolding atomic_of number_in symbols
returns-in-103-b-5 c = hit "Sg" c.in-83.is c.in-103-b-5.is

pub returns-in-105-b-3 : goal.returns-in-105-b-3
unfolding atomic_of number_in symbols
returns-in-105-b-3 c = hit "Si" c.in-83.is c.in-105-b-3.is

pub returns-in-109-b-4 : goal.returns-in-109-b-4
unfolding atomic_of number_in symbols
returns-in-109-b-4 c = hit "Sm" c.in-83.is c.in-109-b-4.is

pub returns-in-110-b-4 : goal.returns-in-110-b-4
unfolding atomic_of number_in symbols
returns-in-110-b-4 c = hit "Sn" c.in-83.is c.in-110-b-4.is

pub returns-in-114-b-9 : goal.returns-in-114-b-9
unfolding atomic_of number_in symbols
returns-in-114-b-9 c = hit "Sr" c.in-83.is c.in-114-b-9.is

pub returns-in_default-b-17 : goal.returns-in_default-b-17
unfolding symbols
returns-in_default-b-17 c = miss "S" (0 ∷ bytes "bcegimnr") tt _ _ c.in-83.is c.in_default-b-17.in_default-b-17-own.rest

pub returns-in-97-b-7 : goal.returns-in-97-b-7
unfolding atomic_of number_in symbols
returns-in-97-b-7 c = hit "Ta" c.in-84.is c.in-97-b-7.is

pub returns-in-98-b-5 : goal.returns-in-98-b-5
unfolding atomic_of number_in symbols
returns-in-98-b-5 c = hit "Tb" c.in-84.is c.in-98-b-5.is

pub returns-in-99-b-3 : goal.returns-in-99-b-3
unfolding atomic_of number_in symbols
returns-in-99-b-3 c = hit "Tc" c.in-84.is c.in-99-b-3.is

pub returns-in-101-b-8 : goal.returns-in-101-b-8
unfolding atomic_of number_in symbols
returns-in-101-b-8 c = hit "Te" c.in-84.is c.in-101-b-8.is

pub returns-in-104-b-3 : goal.returns-in-104-b-3
unfolding atomic_of number_in symbols
returns-in-104-b-3 c = hit "Th" c.in-84.is c.in-104-b-3.is

pub returns-in-105-b-4 : goal.returns-in-105-b-4
unfolding atomic_of number_in symbols
returns-in-105-b-4 c = hit "Ti" c.in-84.is c.in-105-b-4.is

pub returns-in-108-b-3 : goal.returns-in-108-b-3
unfolding atomic_of number_in symbols
returns-in-108-b-3 c = hit "Tl" c.in-84.is c.in-108-b-3.is

pub returns-in-109-b-5 : goal.returns-in-109-b-5
unfolding atomic_of number_in symbols
returns-in-109-b-5 c = hit "Tm" c.in-84.is c.in-109-b-5.is

pub returns-in-115-b-6 : goal.returns-in-115-b-6
unfolding atomic_of number_in symbols
returns-in-115-b-6 c = hit "Ts" c.in-84.is c.in-115-b-6.is

pub returns-in_default-b-18 : goal.returns-in_default-b-18
unfolding symbols
returns-in_default-b-18 c = miss "T" (bytes "abcehilms") tt _ _ c.in-84.is c.in_default-b-18.in_default-b-18-own.rest

pub returns-in-0-b-10 : goal.returns-in-0-b-10
unfolding atomic_of number_in symbols
returns-in-0-b-10 c = hit "U" c.in-85.is c.in-0-b-10.is

pub returns-in_default-b-19 : goal.returns-in_default-b-19
unfolding symbols
returns-in_default-b-19 c = miss "U" (0 ∷ []) tt _ _ c.in-85.is c.in_default-b-19.in_default-b-19-own.rest

pub returns-in-0-b-11 : goal.returns-in-0-b-11
unfolding atomic_of number_in symbols
returns-in-0-b-11 c = hit "V" c.in-86.is c.in-0-b-11.is

pub returns-in_default-b-20 : goal.returns-in_default-b-20
unfolding symbols
returns-in_default-b-20 c = miss "V" (0 ∷ []) tt _ _ c.in-86.is c.in_default-b-20.in_default-b-20-own.rest

pub returns-in-0-b-12 : goal.returns-in-0-b-12
unfolding atomic_of number_in symbols
returns-in-0-b-12 c = hit "W" c.in-87.is c.in-0-b-12.is

pub returns-in_default-b-21 : goal.returns-in_default-b-21
unfolding symbols
returns-in_default-b-21 c = miss "W" (0 ∷ []) tt _ _ c.in-87.is c.in_default-b-21.in_default-b-21-own.rest

pub returns-in-101-b-9 : goal.returns-in-101-b-9
unfolding atomic_of number_in symbols
returns-in-101-b-9 c = hit "Xe" c.in-88.is c.in-101-b-9.is

pub returns-in_default-b-22 : goal.returns-in_default-b-22
unfolding symbols
returns-in_default-b-22 c = miss "X" (bytes "e") tt _ _ c.in-88.is c.in_default-b-22.in_default-b-22-own.rest

pub returns-in-0-b-13 : goal.returns-in-0-b-13
unfolding atomic_of number_in symbols
returns-in-0-b-13 c = hit "Y" c.in-89.is c.in-0-b-13.is

pub returns-in-98-b-6 : goal.returns-in-98-b-6
unfolding atomic_of number_in symbols
returns-in-98-b-6 c = hit "Yb" c.in-89.is c.in-98-b-6.is

pub returns-in_default-b-23 : goal.returns-in_default-b-23
unfolding symbols
returns-in_default-b-23 c = miss "Y" (0 ∷ bytes "b") tt _ _ c.in-89.is c.in_default-b-23.in_default-b-23-own.rest

pub returns-in-110-b-5 : goal.returns-in-110-b-5
unfolding atomic_of number_in symbols
returns-in-110-b-5 c = hit "Zn" c.in-90.is c.in-110-b-5.is

pub returns-in-114-b-10 : goal.returns-in-114-b-10
unfolding atomic_of number_in symbols
returns-in-114-b-10 c = hit "Zr" c.in-90.is c.in-114-b-10.is

pub returns-in_default-b-24 : goal.returns-in_default-b-24
unfolding symbols
returns-in_default-b-24 c = miss "Z" (bytes "nr") tt _ _ c.in-90.is c.in_default-b-24.in_default-b-24-own.rest

pub returns-in-0-to-64 : goal.returns-in-0-to-64
unfolding symbols
returns-in-0-to-64 c = miss_first (bytes "ABCDEFGHIJKLMNOPQRSTUVWXYZ") tt _ _ c.in-0-to-64.in-0-to-64-own.rest
