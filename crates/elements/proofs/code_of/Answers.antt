-- `elements::code_of` meets its contract: each of the 118 arms computed, and no symbol for any other number. Assumes nothing.
use Rattle.rules.specs.Elements.{symbols}
use Rattle.elements.specs.Numbers.{letters_of, code_of}
use Rattle.elements.proofs.Codes.{code_is, no_code}
use Rattle.elements.proofs.code_of.Goals as goal

pub returns-in-1 : goal.returns-in-1
unfolding code_of letters_of symbols
returns-in-1 c = code_is 1 c.in-1.is

pub returns-in-2 : goal.returns-in-2
unfolding code_of letters_of symbols
returns-in-2 c = code_is 2 c.in-2.is

pub returns-in-3 : goal.returns-in-3
unfolding code_of letters_of symbols
returns-in-3 c = code_is 3 c.in-3.is

pub returns-in-4 : goal.returns-in-4
unfolding code_of letters_of symbols
returns-in-4 c = code_is 4 c.in-4.is

pub returns-in-5 : goal.returns-in-5
unfolding code_of letters_of symbols
returns-in-5 c = code_is 5 c.in-5.is

pub returns-in-6 : goal.returns-in-6
unfolding code_of letters_of symbols
returns-in-6 c = code_is 6 c.in-6.is

pub returns-in-7 : goal.returns-in-7
unfolding code_of letters_of symbols
returns-in-7 c = code_is 7 c.in-7.is

pub returns-in-8 : goal.returns-in-8
unfolding code_of letters_of symbols
returns-in-8 c = code_is 8 c.in-8.is

pub returns-in-9 : goal.returns-in-9
unfolding code_of letters_of symbols
returns-in-9 c = code_is 9 c.in-9.is

pub returns-in-10 : goal.returns-in-10
unfolding code_of letters_of symbols
returns-in-10 c = code_is 10 c.in-10.is

pub returns-in-11 : goal.returns-in-11
unfolding code_of letters_of symbols
returns-in-11 c = code_is 11 c.in-11.is

pub returns-in-12 : goal.returns-in-12
unfolding code_of letters_of symbols
returns-in-12 c = code_is 12 c.in-12.is

pub returns-in-13 : goal.returns-in-13
unfolding code_of letters_of symbols
returns-in-13 c = code_is 13 c.in-13.is

pub returns-in-14 : goal.returns-in-14
unfolding code_of letters_of symbols
returns-in-14 c = code_is 14 c.in-14.is

pub returns-in-15 : goal.returns-in-15
unfolding code_of letters_of symbols
returns-in-15 c = code_is 15 c.in-15.is

pub returns-in-16 : goal.returns-in-16
unfolding code_of letters_of symbols
returns-in-16 c = code_is 16 c.in-16.is

pub returns-in-17 : goal.returns-in-17
unfolding code_of letters_of symbols
returns-in-17 c = code_is 17 c.in-17.is

pub returns-in-18 : goal.returns-in-18
unfolding code_of letters_of symbols
returns-in-18 c = code_is 18 c.in-18.is

pub returns-in-19 : goal.returns-in-19
unfolding code_of letters_of symbols
returns-in-19 c = code_is 19 c.in-19.is

pub returns-in-20 : goal.returns-in-20
unfolding code_of letters_of symbols
returns-in-20 c = code_is 20 c.in-20.is

pub returns-in-21 : goal.returns-in-21
unfolding code_of letters_of symbols
returns-in-21 c = code_is 21 c.in-21.is

pub returns-in-22 : goal.returns-in-22
unfolding code_of letters_of symbols
returns-in-22 c = code_is 22 c.in-22.is

pub returns-in-23 : goal.returns-in-23
unfolding code_of letters_of symbols
returns-in-23 c = code_is 23 c.in-23.is

pub returns-in-24 : goal.returns-in-24
unfolding code_of letters_of symbols
returns-in-24 c = code_is 24 c.in-24.is

pub returns-in-25 : goal.returns-in-25
unfolding code_of letters_of symbols
returns-in-25 c = code_is 25 c.in-25.is

pub returns-in-26 : goal.returns-in-26
unfolding code_of letters_of symbols
returns-in-26 c = code_is 26 c.in-26.is

pub returns-in-27 : goal.returns-in-27
unfolding code_of letters_of symbols
returns-in-27 c = code_is 27 c.in-27.is

pub returns-in-28 : goal.returns-in-28
unfolding code_of letters_of symbols
returns-in-28 c = code_is 28 c.in-28.is

pub returns-in-29 : goal.returns-in-29
unfolding code_of letters_of symbols
returns-in-29 c = code_is 29 c.in-29.is

pub returns-in-30 : goal.returns-in-30
unfolding code_of letters_of symbols
returns-in-30 c = code_is 30 c.in-30.is

pub returns-in-31 : goal.returns-in-31
unfolding code_of letters_of symbols
returns-in-31 c = code_is 31 c.in-31.is

pub returns-in-32 : goal.returns-in-32
unfolding code_of letters_of symbols
returns-in-32 c = code_is 32 c.in-32.is

pub returns-in-33 : goal.returns-in-33
unfolding code_of letters_of symbols
returns-in-33 c = code_is 33 c.in-33.is

pub returns-in-34 : goal.returns-in-34
unfolding code_of letters_of symbols
returns-in-34 c = code_is 34 c.in-34.is

pub returns-in-35 : goal.returns-in-35
unfolding code_of letters_of symbols
returns-in-35 c = code_is 35 c.in-35.is

pub returns-in-36 : goal.returns-in-36
unfolding code_of letters_of symbols
returns-in-36 c = code_is 36 c.in-36.is

pub returns-in-37 : goal.returns-in-37
unfolding code_of letters_of symbols
returns-in-37 c = code_is 37 c.in-37.is

pub returns-in-38 : goal.returns-in-38
unfolding code_of letters_of symbols
returns-in-38 c = code_is 38 c.in-38.is

pub returns-in-39 : goal.returns-in-39
unfolding code_of letters_of symbols
returns-in-39 c = code_is 39 c.in-39.is

pub returns-in-40 : goal.returns-in-40
unfolding code_of letters_of symbols
returns-in-40 c = code_is 40 c.in-40.is

pub returns-in-41 : goal.returns-in-41
unfolding code_of letters_of symbols
returns-in-41 c = code_is 41 c.in-41.is

pub returns-in-42 : goal.returns-in-42
unfolding code_of letters_of symbols
returns-in-42 c = code_is 42 c.in-42.is

pub returns-in-43 : goal.returns-in-43
unfolding code_of letters_of symbols
returns-in-43 c = code_is 43 c.in-43.is

pub returns-in-44 : goal.returns-in-44
unfolding code_of letters_of symbols
returns-in-44 c = code_is 44 c.in-44.is

pub returns-in-45 : goal.returns-in-45
unfolding code_of letters_of symbols
returns-in-45 c = code_is 45 c.in-45.is

pub returns-in-46 : goal.returns-in-46
unfolding code_of letters_of symbols
returns-in-46 c = code_is 46 c.in-46.is

pub returns-in-47 : goal.returns-in-47
unfolding code_of letters_of symbols
returns-in-47 c = code_is 47 c.in-47.is

pub returns-in-48 : goal.returns-in-48
unfolding code_of letters_of symbols
returns-in-48 c = code_is 48 c.in-48.is

pub returns-in-49 : goal.returns-in-49
unfolding code_of letters_of symbols
returns-in-49 c = code_is 49 c.in-49.is

pub returns-in-50 : goal.returns-in-50
unfolding code_of letters_of symbols
returns-in-50 c = code_is 50 c.in-50.is

pub returns-in-51 : goal.returns-in-51
unfolding code_of letters_of symbols
returns-in-51 c = code_is 51 c.in-51.is

pub returns-in-52 : goal.returns-in-52
unfolding code_of letters_of symbols
returns-in-52 c = code_is 52 c.in-52.is

pub returns-in-53 : goal.returns-in-53
unfolding code_of letters_of symbols
returns-in-53 c = code_is 53 c.in-53.is

pub returns-in-54 : goal.returns-in-54
unfolding code_of letters_of symbols
returns-in-54 c = code_is 54 c.in-54.is

pub returns-in-55 : goal.returns-in-55
unfolding code_of letters_of symbols
returns-in-55 c = code_is 55 c.in-55.is

pub returns-in-56 : goal.returns-in-56
unfolding code_of letters_of symbols
returns-in-56 c = code_is 56 c.in-56.is

pub returns-in-57 : goal.returns-in-57
unfolding code_of letters_of symbols
returns-in-57 c = code_is 57 c.in-57.is

pub returns-in-58 : goal.returns-in-58
unfolding code_of letters_of symbols
returns-in-58 c = code_is 58 c.in-58.is

pub returns-in-59 : goal.returns-in-59
unfolding code_of letters_of symbols
returns-in-59 c = code_is 59 c.in-59.is

pub returns-in-60 : goal.returns-in-60
unfolding code_of letters_of symbols
returns-in-60 c = code_is 60 c.in-60.is

pub returns-in-61 : goal.returns-in-61
unfolding code_of letters_of symbols
returns-in-61 c = code_is 61 c.in-61.is

pub returns-in-62 : goal.returns-in-62
unfolding code_of letters_of symbols
returns-in-62 c = code_is 62 c.in-62.is

pub returns-in-63 : goal.returns-in-63
unfolding code_of letters_of symbols
returns-in-63 c = code_is 63 c.in-63.is

pub returns-in-64 : goal.returns-in-64
unfolding code_of letters_of symbols
returns-in-64 c = code_is 64 c.in-64.is

pub returns-in-65 : goal.returns-in-65
unfolding code_of letters_of symbols
returns-in-65 c = code_is 65 c.in-65.is

pub returns-in-66 : goal.returns-in-66
unfolding code_of letters_of symbols
returns-in-66 c = code_is 66 c.in-66.is

pub returns-in-67 : goal.returns-in-67
unfolding code_of letters_of symbols
returns-in-67 c = code_is 67 c.in-67.is

pub returns-in-68 : goal.returns-in-68
unfolding code_of letters_of symbols
returns-in-68 c = code_is 68 c.in-68.is

pub returns-in-69 : goal.returns-in-69
unfolding code_of letters_of symbols
returns-in-69 c = code_is 69 c.in-69.is

pub returns-in-70 : goal.returns-in-70
unfolding code_of letters_of symbols
returns-in-70 c = code_is 70 c.in-70.is

pub returns-in-71 : goal.returns-in-71
unfolding code_of letters_of symbols
returns-in-71 c = code_is 71 c.in-71.is

pub returns-in-72 : goal.returns-in-72
unfolding code_of letters_of symbols
returns-in-72 c = code_is 72 c.in-72.is

pub returns-in-73 : goal.returns-in-73
unfolding code_of letters_of symbols
returns-in-73 c = code_is 73 c.in-73.is

pub returns-in-74 : goal.returns-in-74
unfolding code_of letters_of symbols
returns-in-74 c = code_is 74 c.in-74.is

pub returns-in-75 : goal.returns-in-75
unfolding code_of letters_of symbols
returns-in-75 c = code_is 75 c.in-75.is

pub returns-in-76 : goal.returns-in-76
unfolding code_of letters_of symbols
returns-in-76 c = code_is 76 c.in-76.is

pub returns-in-77 : goal.returns-in-77
unfolding code_of letters_of symbols
returns-in-77 c = code_is 77 c.in-77.is

pub returns-in-78 : goal.returns-in-78
unfolding code_of letters_of symbols
returns-in-78 c = code_is 78 c.in-78.is

pub returns-in-79 : goal.returns-in-79
unfolding code_of letters_of symbols
returns-in-79 c = code_is 79 c.in-79.is

pub returns-in-80 : goal.returns-in-80
unfolding code_of letters_of symbols
returns-in-80 c = code_is 80 c.in-80.is

pub returns-in-81 : goal.returns-in-81
unfolding code_of letters_of symbols
returns-in-81 c = code_is 81 c.in-81.is

pub returns-in-82 : goal.returns-in-82
unfolding code_of letters_of symbols
returns-in-82 c = code_is 82 c.in-82.is

pub returns-in-83 : goal.returns-in-83
unfolding code_of letters_of symbols
returns-in-83 c = code_is 83 c.in-83.is

pub returns-in-84 : goal.returns-in-84
unfolding code_of letters_of symbols
returns-in-84 c = code_is 84 c.in-84.is

pub returns-in-85 : goal.returns-in-85
unfolding code_of letters_of symbols
returns-in-85 c = code_is 85 c.in-85.is

pub returns-in-86 : goal.returns-in-86
unfolding code_of letters_of symbols
returns-in-86 c = code_is 86 c.in-86.is

pub returns-in-87 : goal.returns-in-87
unfolding code_of letters_of symbols
returns-in-87 c = code_is 87 c.in-87.is

pub returns-in-88 : goal.returns-in-88
unfolding code_of letters_of symbols
returns-in-88 c = code_is 88 c.in-88.is

pub returns-in-89 : goal.returns-in-89
unfolding code_of letters_of symbols
returns-in-89 c = code_is 89 c.in-89.is

pub returns-in-90 : goal.returns-in-90
unfolding code_of letters_of symbols
returns-in-90 c = code_is 90 c.in-90.is

pub returns-in-91 : goal.returns-in-91
unfolding code_of letters_of symbols
returns-in-91 c = code_is 91 c.in-91.is

pub returns-in-92 : goal.returns-in-92
unfolding code_of letters_of symbols
returns-in-92 c = code_is 92 c.in-92.is

pub returns-in-93 : goal.returns-in-93
unfolding code_of letters_of symbols
returns-in-93 c = code_is 93 c.in-93.is

pub returns-in-94 : goal.returns-in-94
unfolding code_of letters_of symbols
returns-in-94 c = code_is 94 c.in-94.is

pub returns-in-95 : goal.returns-in-95
unfolding code_of letters_of symbols
returns-in-95 c = code_is 95 c.in-95.is

pub returns-in-96 : goal.returns-in-96
unfolding code_of letters_of symbols
returns-in-96 c = code_is 96 c.in-96.is

pub returns-in-97 : goal.returns-in-97
unfolding code_of letters_of symbols
returns-in-97 c = code_is 97 c.in-97.is

pub returns-in-98 : goal.returns-in-98
unfolding code_of letters_of symbols
returns-in-98 c = code_is 98 c.in-98.is

pub returns-in-99 : goal.returns-in-99
unfolding code_of letters_of symbols
returns-in-99 c = code_is 99 c.in-99.is

pub returns-in-100 : goal.returns-in-100
unfolding code_of letters_of symbols
returns-in-100 c = code_is 100 c.in-100.is

pub returns-in-101 : goal.returns-in-101
unfolding code_of letters_of symbols
returns-in-101 c = code_is 101 c.in-101.is

pub returns-in-102 : goal.returns-in-102
unfolding code_of letters_of symbols
returns-in-102 c = code_is 102 c.in-102.is

pub returns-in-103 : goal.returns-in-103
unfolding code_of letters_of symbols
returns-in-103 c = code_is 103 c.in-103.is

pub returns-in-104 : goal.returns-in-104
unfolding code_of letters_of symbols
returns-in-104 c = code_is 104 c.in-104.is

pub returns-in-105 : goal.returns-in-105
unfolding code_of letters_of symbols
returns-in-105 c = code_is 105 c.in-105.is

pub returns-in-106 : goal.returns-in-106
unfolding code_of letters_of symbols
returns-in-106 c = code_is 106 c.in-106.is

pub returns-in-107 : goal.returns-in-107
unfolding code_of letters_of symbols
returns-in-107 c = code_is 107 c.in-107.is

pub returns-in-108 : goal.returns-in-108
unfolding code_of letters_of symbols
returns-in-108 c = code_is 108 c.in-108.is

pub returns-in-109 : goal.returns-in-109
unfolding code_of letters_of symbols
returns-in-109 c = code_is 109 c.in-109.is

pub returns-in-110 : goal.returns-in-110
unfolding code_of letters_of symbols
returns-in-110 c = code_is 110 c.in-110.is

pub returns-in-111 : goal.returns-in-111
unfolding code_of letters_of symbols
returns-in-111 c = code_is 111 c.in-111.is

pub returns-in-112 : goal.returns-in-112
unfolding code_of letters_of symbols
returns-in-112 c = code_is 112 c.in-112.is

pub returns-in-113 : goal.returns-in-113
unfolding code_of letters_of symbols
returns-in-113 c = code_is 113 c.in-113.is

pub returns-in-114 : goal.returns-in-114
unfolding code_of letters_of symbols
returns-in-114 c = code_is 114 c.in-114.is

pub returns-in-115 : goal.returns-in-115
unfolding code_of letters_of symbols
returns-in-115 c = code_is 115 c.in-115.is

pub returns-in-116 : goal.returns-in-116
unfolding code_of letters_of symbols
returns-in-116 c = code_is 116 c.in-116.is

pub returns-in-117 : goal.returns-in-117
unfolding code_of letters_of symbols
returns-in-117 c = code_is 117 c.in-117.is

pub returns-in-118 : goal.returns-in-118
unfolding code_of letters_of symbols
returns-in-118 c = code_is 118 c.in-118.is

pub returns-in_default : goal.returns-in_default
returns-in_default c = no_code _ c.in_default.in_default-own.rest
