-- For each rule a small text that breaks it, with the octet that is reported, and one near it that is accepted.
use Rattle.std.specs.Prelude.{List, [], ◌∷◌, codes}
use Rattle.idl_rule_definitions.specs.Texts.{Example, breaks, keeps}

abbrev pub texts_that_break : List Example
texts_that_break =
    breaks (codes "[local] interface t { [in]struct s{long a;}; }") 1 23
    ∷ breaks (codes "[local] interface t { void f([in,out,in]long*a); }") 2 37
    ∷ breaks (codes "[version(1)] interface t { }") 3 0
    ∷ breaks (codes "[local, version(1.65536)] interface t { }") 4 8
    ∷ breaks (codes "[local] interface t { long; }") 5 22
    ∷ breaks (codes "[local] interface t { typedef void v; }") 6 22
    ∷ breaks (codes "[local] interface t { typedef handle_t h; }") 7 22
    ∷ breaks (codes "[local] interface t { typedef pipe long p; struct s{p a;}; }") 8 52
    ∷ breaks (codes "[local] interface t { typedef[context_handle]long*c; }") 9 22
    ∷ breaks (codes "[local] interface t { typedef [context_handle] void *c; struct s{c a;}; }") 10 65
    ∷ breaks (codes "[local] interface t { struct s{struct s a;}; }") 11 22
    ∷ breaks
    (codes "[local] interface t { typedef long a[1][1][1][1][1][1][1][1][1][1][1][1][1][1][1][1][1][1][1][1][1][1][1][1][1][1][1][1][1][1][1][1]; }")
    12 22
    ∷ breaks (codes "[local] interface t { enum{A=32768}; }") 13 27
    ∷ breaks (codes "[local] interface t { typedef long a[0]; }") 14 22
    ∷ breaks (codes "[local] interface t { typedef long a[1..2]; }") 15 22
    ∷ breaks (codes "[local] interface t { typedef long a[2][*]; }") 16 22
    ∷ breaks (codes "[local] interface t { struct s{long a[*];};typedef struct s t[2]; }") 17 43
    ∷ breaks (codes "[local] interface t { struct s{long n;[size_is(n)]long a[*];long b;}; }") 18 38
    ∷ breaks (codes "[local] interface t { union u switch(long k){default:long a[*];}; }") 19 53
    ∷ breaks (codes "[local] interface t { typedef pipe struct{[ptr]long*a;}p; }") 20 22
    ∷ breaks (codes "[local] interface t { union u switch(byte k){default:;}; }") 21 22
    ∷ breaks (codes "[local] interface t { union u switch(boolean k){case 2:;}; }") 22 48
    ∷ breaks (codes "[local] interface t { union u{[default];}; }") 23 22
    ∷ breaks (codes "[local] interface t { typedef [switch_type(long)] union { [default]; } u; void f([in]u a); }") 24 81
    ∷ breaks (codes "[local] interface t { struct s{long k;[switch_is(k)]long a;}; }") 25 38
    ∷ breaks (codes "[local] interface t { typedef[ref]long a; }") 26 22
    ∷ breaks (codes "[local] interface t { typedef long*a; }") 27 22
    ∷ breaks (codes "[local] interface t { typedef[ref]long*a;typedef[ptr]a*b; }") 28 41
    ∷ breaks (codes "[local] interface t { void f([out,ptr]long*a); }") 29 29
    ∷ breaks (codes "[local] interface t { void f(long a); }") 30 29
    ∷ breaks (codes "[local] interface t { void f([out]long a); }") 31 29
    ∷ breaks (codes "[local] interface t { typedef long a[2];a f(); }") 32 40
    ∷ breaks (codes "[local] interface t { typedef[string]long a[2]; }") 33 22
    ∷ breaks (codes "[local] interface t { void f([in]long a[*]); }") 34 29
    ∷ breaks (codes "[local] interface t { struct s{long n;[length_is(n)]long a;}; }") 35 38
    ∷ breaks (codes "[local] interface t { struct s{[size_is(n)]long a[*];}; }") 36 31
    ∷ breaks (codes "[local] interface t { struct s{char n;[size_is(n)]long a[*];}; }") 37 38
    ∷ breaks (codes "[local] interface t { const char A=256; }") 38 22
    ∷ []

abbrev pub texts_that_keep : List Example
texts_that_keep =
    keeps (codes "[local] interface t { [switch_type(short)]struct s{long a;}; }")
    ∷ keeps (codes "[local] interface t { void f([in,out]long*a); }")
    ∷ keeps (codes "[local] interface t { }")
    ∷ keeps (codes "[local, version(65535.0xFFFF)] interface t { }")
    ∷ keeps (codes "[local] interface t { enum{A}; }")
    ∷ keeps (codes "[local] interface t { typedef [context_handle] void *c;  }")
    ∷ keeps (codes "[local] interface t { void f([in]handle_t h); }")
    ∷ keeps (codes "[local] interface t { typedef pipe long p; void f([in]p a,[out]p b,[in,out]p*c); }")
    ∷ keeps (codes "[local] interface t { typedef [context_handle] void *c;  }")
    ∷ keeps (codes "[local] interface t { typedef [context_handle] void *c; void f([in]c a,[out]c*b); }")
    ∷ keeps (codes "[local] interface t { struct s{[ptr]struct s*a;}; }")
    ∷ keeps
    (codes "[local] interface t { typedef long a[1][1][1][1][1][1][1][1][1][1][1][1][1][1][1][1][1][1][1][1][1][1][1][1][1][1][1][1][1][1][1]; }")
    ∷ keeps (codes "[local] interface t { enum{A=32767}; }")
    ∷ keeps (codes "[local] interface t { typedef long a[1]; }")
    ∷ keeps (codes "[local] interface t { typedef long a[0..2]; }")
    ∷ keeps (codes "[local] interface t { typedef long a[2][3]; }")
    ∷ keeps (codes "[local] interface t { struct s{long a[4];};typedef struct s t[2]; }")
    ∷ keeps (codes "[local] interface t { struct s{long n;[size_is(n)]long a[*];}; }")
    ∷ keeps (codes "[local] interface t { union u switch(long k){default:long a[4];}; }")
    ∷ keeps (codes "[local] interface t { typedef pipe struct{long a[2];}p; }")
    ∷ keeps (codes "[local] interface t { union u switch(char k){default:;}; }")
    ∷ keeps (codes "[local] interface t { union u switch(boolean k){case 1:;}; }")
    ∷ keeps (codes "[local] interface t { [switch_type(long)]union u{[default];}; }")
    ∷ keeps (codes "[local] interface t { typedef [switch_type(long)] union { [default]; } u; void f([in]long k,[in,switch_is(k)]u a); }")
    ∷ keeps (codes "[local] interface t { typedef [switch_type(long)] union { [default]; } u; struct s{long k;[switch_is(k)]u a;}; }")
    ∷ keeps (codes "[local] interface t { typedef[ref]long*a; }")
    ∷ keeps (codes "[local] interface t { void f([in]long*a); }")
    ∷ keeps (codes "[local] interface t { typedef[ptr]long*a;typedef[ptr]a*b; }")
    ∷ keeps (codes "[local] interface t { void f([in,out,ptr]long*a); }")
    ∷ keeps (codes "[local] interface t { void f([in]long a); }")
    ∷ keeps (codes "[local] interface t { void f([out]long a[2]); }")
    ∷ keeps (codes "[local] interface t { typedef long a;a f(); }")
    ∷ keeps (codes "[local] interface t { typedef[string]byte a[2]; }")
    ∷ keeps (codes "[local] interface t { void f([in,max_is(n)]long a[*],[in]long n); }")
    ∷ keeps (codes "[local] interface t { struct s{long n;[length_is(n)]long a[2];}; }")
    ∷ keeps (codes "[local] interface t { struct s{long n;[size_is(n)]long a[*];}; }")
    ∷ keeps (codes "[local] interface t { struct s{small n;[size_is(n)]long a[*];}; }")
    ∷ keeps (codes "[local] interface t { const char A=255; }")
    ∷ []

-- ## In the windows language

abbrev pub windows_texts_that_break : List Example
windows_texts_that_break =
    breaks (codes "[local] interface t { typedef[any_size]long a[*]; }") 1 30
    ∷ breaks (codes "[local] interface t { union u switch(long k){default:[any_length]long a[2];}; }") 1 54
    ∷ breaks (codes "[local] interface t { struct s{[any_length,any_length]long a[2];}; }") 2 43
    ∷ breaks (codes "[local] interface t { typedef[string,any_length]char a[2]; }") 33 22
    ∷ breaks (codes "[local] interface t { void f([in]long n,[in,size_is(n),any_size]long a[*]); }") 34 40
    ∷ breaks (codes "[local] interface t { struct s{[any_size]long a[2];}; }") 34 31
    ∷ breaks (codes "[local] interface t { typedef[any_length]long a; }") 35 22
    ∷ breaks (codes "[local] interface t { struct s{long n;[length_is(n),any_length]long a[2];}; }") 35 38
    ∷ breaks (codes "[local] interface t { struct s{[any_length,ptr]long*a;}; }") 35 31
    ∷ []

abbrev pub windows_texts_that_keep : List Example
windows_texts_that_keep =
    keeps (codes "[local] interface t { typedef[any_length]long a[*];typedef[any_length]long b[3]; }")
    ∷ keeps (codes "[local] interface t { struct s{[any_size]long a[*];};void f([in,any_size]long a[*]); }")
    ∷ keeps (codes "[local] interface t { struct s{[any_size,any_length,ptr]struct s*a;}; }")
    ∷ keeps (codes "[local] interface t { void f([in]long n,[in,size_is(n),any_length]long*a,[in,any_length]long b[2]); }")
    ∷ keeps (codes "[local] interface t { struct any_size{long any_length;}; }")
    ∷ []
