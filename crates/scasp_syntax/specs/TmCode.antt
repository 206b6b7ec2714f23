-- How a list of terms is stored as a ghost value.
use Rattle.std.specs.Prelude.{◌≡◌}
use Rattle.std.proofs.Common.{refl, ap}
use Rattle.scasp_num.specs.Number.{number_code}
use base.Stored.{Gv, gnil, gnum, gcons, Coded}
use Rattle.scasp_syntax.specs.Tm.{Tm, Tms, var, num, app, nil, cons}

abbrev mutual
  pub code_tm : Tm → Gv
  code_tm (var x) = gcons (gnum 0) (gnum x)
  code_tm (num q) = gcons (gnum 1) (number_code.code q)
  code_tm (app f ts) = gcons (gnum 2) (gcons (gnum f) (code_tms ts))

  pub code_tms : Tms → Gv
  code_tms nil = gnil
  code_tms (cons t ts) = gcons (code_tm t) (code_tms ts)

mutual
  pub tm_inj : (t u : Tm) → code_tm t ≡ code_tm u → t ≡ u
  tm_inj (var x) (var y) p = cc
  tm_inj (var x) (num r) p = cc
  tm_inj (var x) (app g us) p = cc
  tm_inj (num q) (var y) p = cc
  tm_inj (num q) (num r) p = let e : number_code.code q ≡ number_code.code r = cc in ap num (number_code.inj q r e)
  tm_inj (num q) (app g us) p = cc
  tm_inj (app f ts) (var y) p = cc
  tm_inj (app f ts) (num r) p = cc
  tm_inj (app f ts) (app g us) p =
      let e : code_tms ts ≡ code_tms us = cc in
      let n : f ≡ g = cc in
      let s = tms_inj ts us e in cc

  pub tms_inj : (ts us : Tms) → code_tms ts ≡ code_tms us → ts ≡ us
  tms_inj nil nil p = refl
  tms_inj nil (cons u us) p = cc
  tms_inj (cons t ts) nil p = cc
  tms_inj (cons t ts) (cons u us) p =
      let d : code_tm t ≡ code_tm u = cc in
      let e : code_tms ts ≡ code_tms us = cc in
      let h = tm_inj t u d in
      let s = tms_inj ts us e in cc

abbrev pub coded_tms : Coded Tms
coded_tms = record { code = code_tms; inj = tms_inj }
