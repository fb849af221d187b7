use Rattle.ctr_write.specs.declared.stages.Written.TheVariants.{Grown, Full}
use Rattle.ctr_told.proofs.Rows.{without_page}
use Rattle.ctr_told.proofs.Unlogged.{grows, stays}
use Rattle.ctr_told.proofs.writing.a_write_without_a_record.Goals as goal

pub returns-clause-grown : goal.returns-clause-grown
returns-clause-grown c = λ wish stage s t. grows wish stage s t

pub returns-clause-full : goal.returns-clause-full
returns-clause-full c = λ wish stage s t. stays wish stage s t

pub returns-clause-grown_without_page : goal.returns-clause-grown_without_page
returns-clause-grown_without_page c = λ wish stage s t title e key more facts are ends. without_page wish s t Grown tt title e key stage more facts are ends

pub returns-clause-full_without_page : goal.returns-clause-full_without_page
returns-clause-full_without_page c = λ wish stage s t title e key more facts are ends. without_page wish s t Full tt title e key stage more facts are ends
